-- Lists of which at most one element passes a test.
use Rattle.std.proofs.Common.{◌≡◌, ◌+◌, ◌<◌, ◌≤◌, ◌∷◌, ◌++◌, ◌∙◌, [], ℕ, suc, zero, Bool, List, None, Option, Some, ap, arith, cond, false, get_or, inl, inr, length, ltb, refl, sym, true}
use Rattle.std.specs.Prelude.{◌||◌, count_by, filter, find, not, position, remove, slice_get, unwrap_or}
use Rattle.std.specs.List.{list_any, position_or_len}
use Rattle.std.specs.Option.{option_or}
use Rattle.std.proofs.lemmas.Bool.{cases_lt, lt-ltb, ltb-false, ltb-true}
use Rattle.std.proofs.lemmas.List.Folds.{find_at, list_any_at, list_any_none}
use Rattle.std.proofs.lemmas.List.Quantifiers.{position-Some}
use Rattle.std.proofs.lemmas.List.Sums.{fails_before_first, length-filter, sum_by-append, sum_by-cons, sum_by-remove}
use Rattle.std.proofs.lemmas.Option.{cond_some, get_or_from_slice_get, none-some, slice_get_cases, slice_get_within}

-- one element more
pub count_push : {X : Type 0} (p : X → Bool) (xs : List X) (x : X) → count_by p (xs ++ x ∷ []) ≡ count_by p xs + cond (p x) 1 0
count_push p xs x = sum_by-append (λ y. cond (p y) 1 0) xs (x ∷ []) ∙ ap (λ n. count_by p xs + n) (omega arith)

-- one element less
pub count_remove : {X : Type 0} (p : X → Bool) (xs : List X) (i : ℕ) (x : X) → slice_get xs i ≡ Some x → count_by p (remove xs i) + cond (p x) 1 0 ≡ count_by p xs
count_remove p xs i x at =
    let same : get_or xs i x ≡ x = get_or_from_slice_get xs i x x at in
    ap (λ y. count_by p (remove xs i) + cond (p y) 1 0) (sym same) ∙ sum_by-remove (λ y. cond (p y) 1 0) xs i x (slice_get_within xs i x at)

none_step : (b found : Bool) (n : ℕ) → (b || found) ≡ false → (found ≡ false → n ≡ 0) → cond b 1 0 + n ≡ 0
none_step true found n none rest = cc
none_step false found n none rest = let nothing : n ≡ 0 = rest none in omega arith

-- where no element passes, none is counted
pub none_counted : {X : Type 0} (p : X → Bool) (xs : List X) → list_any p xs ≡ false → count_by p xs ≡ 0
none_counted p [] none = refl
none_counted p (x ∷ xs) none = sum_by-cons (λ y. cond (p y) 1 0) x xs ∙ none_step (p x) (list_any p xs) (count_by p xs) none (none_counted p xs)

all_step : {X : Type 0} (b : Bool) (x : X) (passing others xs : List X) → length (cond b (x ∷ passing) passing) ≡ 0 → (length passing ≡ 0 → others ≡ xs) → cond (not b) (x ∷ others) others ≡ x ∷ xs
all_step true x passing others xs none rest = absurd (omega arith)
all_step false x passing others xs none rest = ap (λ ys. x ∷ ys) (rest none)

-- where no element passes, all are others
others_are_all : {X : Type 0} (p : X → Bool) (xs : List X) → length (filter p xs) ≡ 0 → filter (λ x. not (p x)) xs ≡ xs
others_are_all p [] none = refl
others_are_all p (x ∷ xs) none = all_step (p x) x (filter p xs) (filter (λ y. not (p y)) xs) xs none (others_are_all p xs)

some_step : {X : Type 0} (b : Bool) (x : X) (passing : List X) → 0 < length passing → 0 < length (cond b (x ∷ passing) passing)
some_step true x passing some = omega arith
some_step false x passing some = some

some_here : {X : Type 0} (b : Bool) (x : X) (passing : List X) → b ≡ true → 0 < length (cond b (x ∷ passing) passing)
some_here true x passing is = omega arith
some_here false x passing is = cc

some_passes : {X : Type 0} (p : X → Bool) (xs : List X) (i : ℕ) (x : X) → slice_get xs i ≡ Some x → p x ≡ true → 0 < length (filter p xs)
some_passes p [] i x at is = cc
some_passes p (y ∷ ys) zero x at is = let same : y ≡ x = cc in some_here (p y) y (filter p ys) (ap p same ∙ is)
some_passes p (y ∷ ys) (suc i) x at is = some_step (p y) y (filter p ys) (some_passes p ys i x at is)

here_step : {X : Type 0} (b : Bool) (y : X) (passing others ys : List X) → b ≡ true → length (cond b (y ∷ passing) passing) ≤ 1 → (length passing ≡ 0 → others ≡ ys) → ys ≡ cond (not b) (y ∷ others) others
here_step true y passing others ys is few rest = sym (rest (omega arith))
here_step false y passing others ys is few rest = cc

later_step : {X : Type 0} (b : Bool) (y : X) (passing others left : List X) → 0 < length passing → length (cond b (y ∷ passing) passing) ≤ 1 → (length passing ≤ 1 → left ≡ others) → y ∷ left ≡ cond (not b) (y ∷ others) others
later_step true y passing others left some few rest = absurd (omega arith)
later_step false y passing others left some few rest = ap (λ zs. y ∷ zs) (rest few)

removed_are_others : {X : Type 0} (p : X → Bool) (xs : List X) (i : ℕ) (x : X) → slice_get xs i ≡ Some x → p x ≡ true → length (filter p xs) ≤ 1 → remove xs i ≡ filter (λ y. not (p y)) xs
removed_are_others p [] i x at is few = cc
removed_are_others p (y ∷ ys) zero x at is few =
    let same : y ≡ x = cc in
    here_step (p y) y (filter p ys) (filter (λ z. not (p z)) ys) ys (ap p same ∙ is) few (others_are_all p ys)
removed_are_others p (y ∷ ys) (suc i) x at is few =
    later_step (p y) y (filter p ys) (filter (λ z. not (p z)) ys) (remove ys i) (some_passes p ys i x at is) few (removed_are_others p ys i x at is)

-- without the one element that passes, all the others are left
pub remove_is_filter : {X : Type 0} (p : X → Bool) (xs : List X) (i : ℕ) (x : X) → slice_get xs i ≡ Some x → p x ≡ true → count_by p xs ≤ 1 → remove xs i ≡ filter (λ y. not (p y)) xs
remove_is_filter p xs i x at is few = removed_are_others p xs i x at is (omega (arith, length-filter p xs))

-- where none passes, all are left
pub filter_is_all : {X : Type 0} (p : X → Bool) (xs : List X) → list_any p xs ≡ false → filter (λ y. not (p y)) xs ≡ xs
filter_is_all p xs none = others_are_all p xs (omega (arith, length-filter p xs, none_counted p xs none))

first_step : {X : Type 0} (b : Bool) (xs : List X) (n : ℕ) (found : Option X) → found ≡ slice_get xs n → (b ≡ true → n < length xs) → (b ≡ false → length xs ≤ n) → option_or found (slice_get xs 0) ≡ slice_get xs (unwrap_or (cond b (Some n) None) 0)
first_step true xs n found is within past =
    let lt : n < length xs = within refl in
    elim (slice_get_cases xs n).1 [ inl h ↦ let e : found ≡ Some h.0 = is ∙ h.2 in rw e (sym h.2) | inr h ↦ absurd (omega arith) ]
first_step false xs n found is within past =
    let le : length xs ≤ n = past refl in
    elim (slice_get_cases xs n).1 [ inl h ↦ absurd (omega arith) | inr h ↦ let e : found ≡ None = is ∙ h.1 in rw e refl ]

-- the first that passes, or else the first, by its place
pub first_at : {X : Type 0} (p : X → Bool) (xs : List X) → option_or (find p xs) (slice_get xs 0) ≡ slice_get xs (unwrap_or (position p xs) 0)
first_at p xs = first_step _ xs (position_or_len p xs) (find p xs) (find_at p xs) (ltb-true (position_or_len p xs) (length xs)) (ltb-false (position_or_len p xs) (length xs))

-- where the first that passes stands
pub record Found {X : Type 0} (p : X → Bool) (xs : List X) (i : ℕ) : Type 0 where
  pub item : X
  pub at : slice_get xs i ≡ Some item
  pub passes : p item ≡ true
  pub within : i < length xs

pub found_at : {X : Type 0} (p : X → Bool) (xs : List X) (i : ℕ) → position p xs ≡ Some i → Found p xs i
found_at p xs i is =
    let below : (ltb (position_or_len p xs) (length xs) ≡ true) × (position_or_len p xs ≡ i) = cond_some (ltb (position_or_len p xs) (length xs)) (position_or_len p xs) i is in
    let lt : position_or_len p xs < length xs = ltb-true (position_or_len p xs) (length xs) below.0 in
    let here : position_or_len p xs ≡ i = below.1 in
    let in_list : i < length xs = omega arith in
    elim (slice_get_cases xs i).1 [
      | inl h ↦ record { item = h.0; at = h.2; passes = ap p (sym h.3) ∙ (position-Some p xs i h.0 is).1; within = in_list }
      | inr h ↦ absurd (omega arith)
    ]

-- so one passes
pub found_any : {X : Type 0} (p : X → Bool) (xs : List X) (i : ℕ) → position p xs ≡ Some i → list_any p xs ≡ true
found_any p xs i is =
    let found : Found p xs i = found_at p xs i is in
    list_any_at p xs i found.item found.within (ap p (get_or_from_slice_get xs i found.item found.item found.at) ∙ found.passes)

beyond : (n len : ℕ) → cond (ltb n len) (Some n) None ≡ None → len ≤ n
beyond n len none = elim (cases_lt n len) [ inl lt ↦ absurd (none-some n (sym none ∙ ap (λ (b : Bool). cond b (Some n) None) (lt-ltb n len lt))) | inr le ↦ le ]

-- or none passes
pub missing : {X : Type 0} (p : X → Bool) (xs : List X) → position p xs ≡ None → list_any p xs ≡ false
missing p xs none =
    let past : length xs ≤ position_or_len p xs = beyond (position_or_len p xs) (length xs) none in
    list_any_none p xs (λ k d lt. fails_before_first p xs k d (omega arith))

or_some : {X : Type 0} (found : Option X) (x : X) → option_or found (Some x) ≡ None → ⊥
or_some None x none = cc
or_some (Some y) x none = cc

-- where the first that passes, or else the first, is not there, the list is empty
pub none_first : {X : Type 0} (p : X → Bool) (xs : List X) → slice_get xs (unwrap_or (position p xs) 0) ≡ None → xs ≡ []
none_first p [] none = refl
none_first p (x ∷ xs) none = absurd (or_some (find p (x ∷ xs)) x (first_at p (x ∷ xs) ∙ none))

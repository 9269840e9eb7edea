-- Counts over a list or a range, one step longer.
use Rattle.std.proofs.Common.{◌≡◌, List, [], ◌∷◌, ◌++◌, Option, Some, None, Bool, true, false, cond, refl, ap, ◌∙◌, sym, ℕ, ◌+◌, ◌<◌, length, take, get_or, arith, suc, zero, add-one}
use Rattle.std.specs.Prelude.{count_by, filter, fold, filter_map, max}
use Rattle.std.specs.List.{range_with_len, cons_option}
use Rattle.std.specs.Option.{option_to_list}
use Rattle.std.proofs.lemmas.List.{take_more}
use Rattle.std.proofs.Common.{◌≤◌}
use Rattle.std.specs.Option.{IfSome}
use Rattle.std.proofs.lemmas.List.Sums.{sum_by-append, fold-append}
use Rattle.std.proofs.lemmas.List.Elements.{filter-append, filter_map-append}
use Rattle.history_entry.specs.declared.entry.Entry.{Entry}

range_suc : (a n : ℕ) → range_with_len a (suc n) ≡ range_with_len a n ++ (a + n) ∷ []
range_suc a zero = let e : a ≡ a + 0 = omega arith in ap (λ x. x ∷ []) e
range_suc a (suc n) =
    let e : (a + 1) + n ≡ a + suc n = omega arith in
    ap (λ xs. a ∷ xs) (range_suc (a + 1) n ∙ ap (λ x. range_with_len (a + 1) n ++ x ∷ []) e)

pub range_more : (n : ℕ) → range_with_len 0 (n + 1) ≡ range_with_len 0 n ++ n ∷ []
range_more n = let e : 0 + n ≡ n = omega arith in rw add-one (range_suc 0 n ∙ ap (λ x. range_with_len 0 n ++ x ∷ []) e)

count_one : (p : ℕ → Bool) (n : ℕ) → count_by p (n ∷ []) ≡ cond (p n) 1 0
count_one p n = omega arith

-- how many of the first numbers pass, one number more
pub count_range_more : (p : ℕ → Bool) (n : ℕ) → count_by p (range_with_len 0 (n + 1)) ≡ count_by p (range_with_len 0 n) + cond (p n) 1 0
count_range_more p n =
    ap (count_by p) (range_more n) ∙ sum_by-append (λ x. cond (p x) 1 0) (range_with_len 0 n) (n ∷ [])
    ∙ ap (λ k. count_by p (range_with_len 0 n) + k) (count_one p n)

filter_range_more : (p : ℕ → Bool) (n : ℕ) → filter p (range_with_len 0 (n + 1)) ≡ filter p (range_with_len 0 n) ++ cond (p n) (n ∷ []) []
filter_range_more p n = ap (filter p) (range_more n) ∙ filter-append p (range_with_len 0 n) (n ∷ [])

append_nothing : {X : Type 0} (xs : List X) → xs ++ [] ≡ xs
append_nothing [] = refl
append_nothing (x ∷ xs) = ap (λ ys. x ∷ ys) (append_nothing xs)

-- which of the first numbers pass, where one number more passes or does not
pub filter_passed : (p : ℕ → Bool) (n : ℕ) → p n ≡ true → filter p (range_with_len 0 (n + 1)) ≡ filter p (range_with_len 0 n) ++ n ∷ []
filter_passed p n is = filter_range_more p n ∙ ap (λ b. filter p (range_with_len 0 n) ++ cond b (n ∷ []) []) is

pub filter_failed : (p : ℕ → Bool) (n : ℕ) → p n ≡ false → filter p (range_with_len 0 (n + 1)) ≡ filter p (range_with_len 0 n)
filter_failed p n is = filter_range_more p n ∙ ap (λ b. filter p (range_with_len 0 n) ++ cond b (n ∷ []) []) is ∙ append_nothing (filter p (range_with_len 0 n))

one_more : (f : Entry → Option ℕ) (e : Entry) → filter_map f (e ∷ []) ≡ option_to_list (f e)
one_more f e = elim (f e) as (λ o. cons_option o [] ≡ option_to_list o) [ None ↦ refl | Some x ↦ refl ]

-- the greatest of what f gives, one entry more
pub greatest_step : (f : Entry → Option ℕ) (h : List Entry) (i : ℕ) (e : Entry) (most : ℕ) → i < length h → e ≡ get_or h i e → most ≡ fold max 0 (filter_map f (take i h)) → fold max most (option_to_list (f e)) ≡ fold max 0 (filter_map f (take (i + 1) h))
greatest_step f h i e most lt is was =
    let more : take (i + 1) h ≡ take i h ++ e ∷ [] = take_more h i e lt ∙ ap (λ x. take i h ++ x ∷ []) (sym is) in
    let given : filter_map f (take (i + 1) h) ≡ filter_map f (take i h) ++ option_to_list (f e) =
    ap (filter_map f) more ∙ filter_map-append f (take i h) (e ∷ []) ∙ ap (λ xs. filter_map f (take i h) ++ xs) (one_more f e) in
    ap (λ n. fold max n (option_to_list (f e))) was ∙ sym (fold-append max 0 (filter_map f (take i h)) (option_to_list (f e))) ∙ ap (fold max 0) (sym given)

-- the greater of two numbers within a bound
pub greatest_few : (most bound : ℕ) (next : Option ℕ) → most ≤ bound → IfSome next (λ n. n ≤ bound) → fold max most (option_to_list next) ≤ bound
greatest_few most bound None le few = le
greatest_few most bound (Some n) le few = omega arith

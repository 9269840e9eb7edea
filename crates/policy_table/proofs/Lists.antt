-- Sums over lists that change at one place, increasing places, and beginnings of one list.
use Rattle.std.proofs.Common.{◌≡◌, ℕ, zero, suc, ◌+◌, ◌<◌, ◌≤◌, ◌≢◌, List, [], ◌∷◌, ◌++◌, length, set, sym, refl, ap, ◌∙◌, arith, append_assoc, append-nil, length-append, Bool, cond, subst, true, false, nat_lt, lt-ltb, le-ltb, get_or}
use mathlib.Core.Option.{some, some-injective, some-ne-none}
use lib.ListN.{get_elem?}
use mathlib.Core.Logic.{dite}
use native.Mathlib.Decide.{dec_lt, ℕ_discrete}
use Rattle.std.specs.Prelude.{All}
use Rattle.std.proofs.Math.ListN.{get_or-append}
use Rattle.std.proofs.Math.Seq.{get_or-append_seam}
use Rattle.std.proofs.lemmas.List.Elements.{All-append}
use Rattle.policy_table.specs.Histories.{StartsWith, ArePlaces, total}
use Rattle.policy_table.specs.Views.{longer, shorter}

module _ {A : Type 0} (g : A → ℕ) where
  pub total-append : (l m : List A) → total g (l ++ m) ≡ total g l + total g m
  total-append [] m = omega arith
  total-append (x ∷ xs) m = omega (arith, total-append xs m)

  -- the sum after the element at j became w
  pub total-set : (l : List A) (j : ℕ) (v w : A) → get_elem? l j ≡ some v → total g (set l j w) + g v ≡ total g l + g w
  total-set [] j v w e = absurd (some-ne-none v (sym e))
  total-set (x ∷ xs) zero v w e = omega (arith, ap g (some-injective x v e))
  total-set (x ∷ xs) (suc j) v w e = omega (arith, total-set xs j v w e)

  pub term_below_total : (l : List A) (j : ℕ) (v : A) → get_elem? l j ≡ some v → g v ≤ total g l
  term_below_total [] j v e = absurd (some-ne-none v (sym e))
  term_below_total (x ∷ xs) zero v e = omega (arith, ap g (some-injective x v e))
  term_below_total (x ∷ xs) (suc j) v e = omega (arith, term_below_total xs j v e)

  pub two_terms_below_total : (l : List A) (j k : ℕ) (v u : A) → k ≢ j → get_elem? l j ≡ some v → get_elem? l k ≡ some u → g v + g u ≤ total g l
  two_terms_below_total [] j k v u n e d = absurd (some-ne-none v (sym e))
  two_terms_below_total (x ∷ xs) zero zero v u n e d = absurd (n refl)
  two_terms_below_total (x ∷ xs) zero (suc k) v u n e d = omega (arith, ap g (some-injective x v e), term_below_total xs k u d)
  two_terms_below_total (x ∷ xs) (suc j) zero v u n e d = omega (arith, ap g (some-injective x u d), term_below_total xs j v e)
  two_terms_below_total (x ∷ xs) (suc j) (suc k) v u n e d = omega (arith, two_terms_below_total xs j k v u (λ h. n (ap suc h)) e d)

  pub total_of_zeros : (l : List A) → ((j : ℕ) (v : A) → get_elem? l j ≡ some v → g v ≡ 0) → total g l ≡ 0
  total_of_zeros [] none = refl
  total_of_zeros (x ∷ xs) none = let first = none 0 x refl in omega (arith, total_of_zeros xs (λ j v e. none (suc j) v e))

-- a place that has an element is below the length
pub place_below_length : {A : Type 0} (l : List A) (i : ℕ) (a : A) → get_elem? l i ≡ some a → i < length l
place_below_length [] i a e = absurd (some-ne-none a (sym e))
place_below_length (x ∷ xs) zero a e = omega arith
place_below_length (x ∷ xs) (suc i) a e = omega (arith, place_below_length xs i a e)

pub places_of_more : (places : List ℕ) (n more : ℕ) → ArePlaces places n → n ≤ more → ArePlaces places more
places_of_more places n more p h = record { increasing = p.increasing; below = λ k d l. let b = p.below k d l in omega arith }

pub no_places : (n : ℕ) → ArePlaces [] n
no_places n = record { increasing = λ k l. absurd (omega arith); below = λ k d l. absurd (omega arith) }

only_below : (n : ℕ) → All (λ place. place < n + 1) (n ∷ [])
only_below n zero d l = omega arith
only_below n (suc k) d l = absurd (omega arith)

-- the end of the list is a further place, once the list is longer
pub places_and_end : (places : List ℕ) (n : ℕ) → ArePlaces places n → ArePlaces (places ++ n ∷ []) (n + 1)
places_and_end places n p = record {
  increasing = λ k within.
      let long = length-append places (n ∷ []) in
      let here : get_or (places ++ n ∷ []) k 0 ≡ get_or places k 0 = get_or-append places (n ∷ []) 0 k (omega arith) in
      dite (dec_lt (k + 1) (length places))
      (λ inside. let next = get_or-append places (n ∷ []) 0 (k + 1) inside in let up = p.increasing k inside in omega arith)
      (λ outside.
      let seam : k + 1 ≡ length places = omega arith in
      let next : get_or (places ++ n ∷ []) (k + 1) 0 ≡ n = subst (λ i. get_or (places ++ n ∷ []) i 0 ≡ n) (sym seam) (get_or-append_seam places n [] 0) in
      let up = p.below k 0 (omega arith) in omega arith);
  below = All-append (λ place. place < n + 1) places (n ∷ []) (λ k d l. let b = p.below k d l in omega arith) (only_below n);
}

module _ {E : Type 0} where
  pub starts_with_itself : (xs : List E) → StartsWith xs xs
  starts_with_itself xs = ([], sym (append-nil xs))

  pub starts_with_start : (xs ys zs : List E) → StartsWith ys xs → StartsWith zs ys → StartsWith zs xs
  starts_with_start xs ys zs a b = (a.0 ++ b.0, b.1 ∙ (ap (λ (l : List E). l ++ b.0) a.1 ∙ append_assoc xs a.0 b.0))

  pub start_not_longer : (xs ys : List E) → StartsWith ys xs → length xs ≤ length ys
  start_not_longer xs ys s = let n = length-append xs s.0 in let e : length ys ≡ length (xs ++ s.0) = ap (λ (l : List E). length l) s.1 in omega arith

  -- of two beginnings of one list the shorter begins the longer
  shorter_start : (xs ys p q : List E) → xs ++ p ≡ ys ++ q → length xs ≤ length ys → StartsWith ys xs
  shorter_start [] ys p q e h = (ys, refl)
  shorter_start (x ∷ xs) [] p q e h = absurd (omega arith)
  shorter_start (x ∷ xs) (y ∷ ys) p q e h = let tails : xs ++ p ≡ ys ++ q = cc in let heads : x ≡ y = cc in
      let t = shorter_start xs ys p q tails (omega arith) in let u : ys ≡ xs ++ t.0 = t.1 in (t.0, (cc))

  shorter_begins : (log xs ys : List E) → StartsWith log xs → StartsWith log ys → length xs ≤ length ys → StartsWith ys xs
  shorter_begins log xs ys a b h = shorter_start xs ys a.0 b.0 (sym a.1 ∙ b.1) h

  nothing : (l : List E) → length l ≡ 0 → l ≡ []
  nothing [] e = refl
  nothing (x ∷ xs) e = absurd (omega arith)

  -- a beginning that isn't shorter is the whole
  pub whole_start : (xs ys : List E) → StartsWith ys xs → length ys ≤ length xs → ys ≡ xs
  whole_start xs ys s h = let n = length-append xs s.0 in let e : length ys ≡ length (xs ++ s.0) = ap (λ (l : List E). length l) s.1 in
      let none_left : s.0 ≡ [] = nothing s.0 (omega arith) in s.1 ∙ (ap (λ (l : List E). xs ++ l) none_left ∙ append-nil xs)

  -- the longer of two beginnings of one list begins with both
  pub longer_begins : (log xs ys : List E) → StartsWith log xs → StartsWith log ys
      → StartsWith log (longer xs ys) × StartsWith (longer xs ys) xs × StartsWith (longer xs ys) ys × StartsWith log (shorter xs ys)
  longer_begins log xs ys a b = let P : Bool → Type 0 = λ (c : Bool). let l = cond c ys xs in StartsWith log l × StartsWith l xs × StartsWith l ys × StartsWith log (cond c xs ys) in
      dite (dec_lt (length xs) (length ys))
      (λ less. subst P (sym (lt-ltb (length xs) (length ys) less)) (b, shorter_begins log xs ys a b (omega arith), starts_with_itself ys, a))
      (λ most. subst P (sym (le-ltb (length xs) (length ys) (omega arith))) (a, starts_with_itself xs, shorter_begins log ys xs b a (omega arith), b))

  both_begin : (c : Bool) (log xs ys : List E) → StartsWith log (cond c ys xs) → StartsWith log (cond c xs ys) → StartsWith log xs × StartsWith log ys
  both_begin true log xs ys a b = (b, a)
  both_begin false log xs ys a b = (a, b)

  -- a list that begins with the longer and the shorter of two begins with both
  pub begins_with_both : (log xs ys : List E) → StartsWith log (longer xs ys) → StartsWith log (shorter xs ys) → StartsWith log xs × StartsWith log ys
  begins_with_both log xs ys a b = both_begin (nat_lt (length xs) (length ys)) log xs ys a b

-- one more row is written behind the rows of a table that is being made
pub rows_and_one : (P : ℕ → ℕ → Type 0) (words after : List ℕ) (n x : ℕ) → after ≡ words ++ x ∷ [] → length words ≡ n + 1 → get_or words 0 0 ≡ 2
    → ((p : ℕ) → p < n → P (get_or words (p + 1) 0) p) → P x n → (length after ≡ n + 1 + 1) × (get_or after 0 0 ≡ 2) × ((p : ℕ) → p < n + 1 → P (get_or after (p + 1) 0) p)
rows_and_one P words after n x e long two rows last = subst (λ (l : List ℕ). (length l ≡ n + 1 + 1) × (get_or l 0 0 ≡ 2) × ((p : ℕ) → p < n + 1 → P (get_or l (p + 1) 0) p)) (sym e) (
  omega (arith, length-append words (x ∷ [])),
  get_or-append words (x ∷ []) 0 0 (omega arith) ∙ two,
  λ p h. dite (ℕ_discrete p n)
      (λ is. let here : get_or (words ++ x ∷ []) (n + 1) 0 ≡ x = subst (λ (k : ℕ). get_or (words ++ x ∷ []) k 0 ≡ x) long (get_or-append_seam words x [] 0) in
      subst (λ (q : ℕ). P (get_or (words ++ x ∷ []) (q + 1) 0) q) (sym is) (subst (λ (y : ℕ). P y n) (sym here) last))
      (λ ne. subst (λ (y : ℕ). P y p) (sym (get_or-append words (x ∷ []) 0 (p + 1) (omega arith))) (rows p (omega arith))),
)

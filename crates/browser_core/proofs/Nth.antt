-- The numbers of a range that pass a test, the first number taken off.
use Rattle.std.proofs.Common.{◌∙◌, ap, refl, sym}
use Rattle.std.specs.Prelude.{◌≡◌, ◌+◌, ◌-◌, ◌<◌, ◌∷◌, Bool, List, Option, cond, false, filter, slice_get, suc, true, ℕ}
use Rattle.std.specs.List.{range_with_len}
use Rattle.request_facts.proofs.Posts.{range_first}

given_first : (p : ℕ → Bool) (i n : ℕ) → i < n
    → filter p (range_with_len i (n - i)) ≡ cond (p i) (i ∷ filter p (range_with_len (i + 1) (n - (i + 1)))) (filter p (range_with_len (i + 1) (n - (i + 1))))
given_first p i n below = ap (filter p) (range_first i n below)

failed : (b : Bool) (i left : ℕ) (xs : List ℕ) → b ≡ false → slice_get (cond b (i ∷ xs) xs) left ≡ slice_get xs left
failed true i left xs is = absurd (cc)
failed false i left xs is = refl

counted : (b : Bool) (i next : ℕ) (xs : List ℕ) → b ≡ true → slice_get (cond b (i ∷ xs) xs) (suc next) ≡ slice_get xs next
counted true i next xs is = refl
counted false i next xs is = absurd (cc)

module _ (p : ℕ → Bool) (i n left next : ℕ) (wanted : Option ℕ) (below : i < n) where
  -- the number fails
  pub number_failed : p i ≡ false → next ≡ left
      → slice_get (filter p (range_with_len i (n - i))) left ≡ wanted → slice_get (filter p (range_with_len (i + 1) (n - (i + 1)))) next ≡ wanted
  number_failed is same was =
      ap (slice_get (filter p (range_with_len (i + 1) (n - (i + 1))))) same
      ∙ sym (failed (p i) i left (filter p (range_with_len (i + 1) (n - (i + 1)))) is)
      ∙ sym (ap (λ xs. slice_get xs left) (given_first p i n below)) ∙ was

  -- the number passes, and another one is looked for
  pub number_counted : p i ≡ true → left ≡ suc next
      → slice_get (filter p (range_with_len i (n - i))) left ≡ wanted → slice_get (filter p (range_with_len (i + 1) (n - (i + 1)))) next ≡ wanted
  number_counted is same was =
      sym (counted (p i) i next (filter p (range_with_len (i + 1) (n - (i + 1)))) is)
      ∙ sym (ap (slice_get (cond (p i) (i ∷ filter p (range_with_len (i + 1) (n - (i + 1)))) (filter p (range_with_len (i + 1) (n - (i + 1)))))) same)
      ∙ sym (ap (λ xs. slice_get xs left) (given_first p i n below)) ∙ was

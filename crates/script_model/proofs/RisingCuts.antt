-- The cuts of a resource rise, and one cut at a time takes a piece off.
use Rattle.std.proofs.Common.{arith, refl, subst}
use Rattle.std.specs.Prelude.{◌≡◌, ◌+◌, ◌-◌, ◌<◌, ◌∷◌, [], Bool, List, cond, false, filter, length, nat_lt, slice_index, suc, true, zero, ℕ}
use Rattle.std.specs.List.{AllByRecursion}
use Rattle.std.specs.List.Sorted.{IsStrictlyIncreasing}
use Rattle.std.proofs.lemmas.Bool.{ltb-true}
use Rattle.std.proofs.lemmas.List.Elements.{recursion_from_All}
use Rattle.std.proofs.lemmas.List.Kept.{IsStrictlyIncreasing-filter}
use Rattle.script_model.specs.CutPlaces.{IsCutFrom, cuts_below}
use Rattle.script_model.specs.ResourceData.{IsCuts, ResourceData}
use Rattle.script_model.specs.Pieces.{sent_bytes}

all_filter : (P : ℕ → Type 0) (p : ℕ → Bool) (xs : List ℕ) → AllByRecursion P xs → AllByRecursion (λ x. P x × (p x ≡ true)) (filter p xs)
all_filter P p [] all = tt
all_filter P p (x ∷ xs) all = by_cases (p x) refl (all_filter P p xs all.1)
  where
    by_cases : (b : Bool) → p x ≡ b → AllByRecursion (λ y. P y × (p y ≡ true)) (filter p xs) → AllByRecursion (λ y. P y × (p y ≡ true)) (cond b (x ∷ filter p xs) (filter p xs))
    by_cases true is more = ((all.0, is), more)
    by_cases false is more = more

abbrev IsWithin : ℕ → ℕ → ℕ → Type 0
IsWithin size end c = ((0 < c) × (c < size)) × (nat_lt c end ≡ true)

rising : (size end from : ℕ) (cuts : List ℕ) → IsStrictlyIncreasing cuts → AllByRecursion (IsWithin size end) cuts → (0 < length cuts → from < slice_index cuts 0) → IsCutFrom from end cuts
rising size end from [] grow all first = tt
rising size end from (c ∷ cuts) grow all first =
    let low : from < c = first (omega arith) in
    (low, ltb-true c end all.0.1, rising size end c cuts (λ k lt. later k (grow (suc k) (omega arith))) all.1 (λ some. grow 0 (omega arith)))
  where
    later : (k : ℕ) → slice_index (c ∷ cuts) (suc k) < slice_index (c ∷ cuts) (suc k + 1) → slice_index cuts k < slice_index cuts (k + 1)
    later k lt = let same : suc k + 1 ≡ suc (k + 1) = omega arith in subst (λ j. slice_index (c ∷ cuts) (suc k) < slice_index (c ∷ cuts) j) same lt

-- the cuts below the end of what is sent rise
pub cuts_rise : (r : ResourceData) → IsCuts (length r.body) r.cuts → IsCutFrom 0 (length (sent_bytes r)) (cuts_below (length (sent_bytes r)) r.cuts)
cuts_rise r cuts = rising (length r.body) end 0 chosen (IsStrictlyIncreasing-filter (λ c. nat_lt c end) r.cuts cuts.rising) all (first chosen all)
  where
    end : ℕ
    end = length (sent_bytes r)

    chosen : List ℕ
    chosen = cuts_below end r.cuts

    all : AllByRecursion (IsWithin (length r.body) end) chosen
    all = all_filter (λ c. (0 < c) × (c < length r.body)) (λ c. nat_lt c end) r.cuts (recursion_from_All (λ c. (0 < c) × (c < length r.body)) r.cuts cuts.within)

    first : (xs : List ℕ) → AllByRecursion (IsWithin (length r.body) end) xs → 0 < length xs → 0 < slice_index xs 0
    first [] every some = absurd (omega arith)
    first (x ∷ xs) every some = every.0.0.0

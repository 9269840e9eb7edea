-- A body that is cut into pieces: the cuts that count, and the piece at the front.
use Rattle.std.proofs.Common.{◌≡◌, ℕ, ◌+◌, ◌-◌, ◌<◌, ◌≤◌, ◌==◌, Bool, true, false, cond, if◌then◌else◌, All, List, [], ◌∷◌, length, take, drop, nat_lt, slice_index, suc, refl, sym, ap, subst, ◌∙◌, arith}
use Rattle.std.specs.List.{AllByRecursion, count_by}
use Rattle.std.specs.List.Sorted.{IsStrictlyIncreasing}
use Rattle.std.proofs.lemmas.Bool.{ltb-true, ltb-false}
use Rattle.std.proofs.lemmas.List.{drop_all, length-drop, take_all}
use Rattle.std.proofs.lemmas.List.Recursion.{is_count_by}
use Rattle.std.proofs.lemmas.List.Elements.{recursion_from_All}
use Rattle.browser_io.specs.Scripted.{IsCutFrom, cut_at, cuts_below, pieces_from}

-- increasing cuts within a body, by recursion on them
pub cuts_from : (size : ℕ) (cuts : List ℕ) → IsStrictlyIncreasing cuts → All (λ c. (0 < c) × (c < size)) cuts → IsCutFrom 0 size cuts
cuts_from size cuts grow all = rises 0 cuts grow every (first cuts every)
  where
    every : AllByRecursion (λ c. (0 < c) × (c < size)) cuts
    every = recursion_from_All (λ c. (0 < c) × (c < size)) cuts all

    first : (xs : List ℕ) → AllByRecursion (λ c. (0 < c) × (c < size)) xs → 0 < length xs → 0 < slice_index xs 0
    first [] each some = absurd (omega arith)
    first (x ∷ xs) each some = each.0.0

    later : (c k : ℕ) (cs : List ℕ) → slice_index (c ∷ cs) (suc k) < slice_index (c ∷ cs) (suc k + 1) → slice_index cs k < slice_index cs (k + 1)
    later c k cs lt = let same : suc k + 1 ≡ suc (k + 1) = omega arith in subst (λ j. slice_index (c ∷ cs) (suc k) < slice_index (c ∷ cs) j) same lt

    rises : (from : ℕ) (cs : List ℕ) → IsStrictlyIncreasing cs → AllByRecursion (λ c. (0 < c) × (c < size)) cs → (0 < length cs → from < slice_index cs 0) → IsCutFrom from size cs
    rises from [] grow each above = tt
    rises from (c ∷ cs) grow each above =
        (above (omega arith), each.0.1, rises c cs (λ k lt. later c k cs (grow (suc k) (omega arith))) each.1 (λ some. grow 0 (omega arith)))

abbrev how_many : ℕ → List ℕ → ℕ
how_many end [] = 0
how_many end (c ∷ cuts) = cond (nat_lt c end) (1 + how_many end cuts) (how_many end cuts)

-- none is below what the one before is not below
none_below : (size end from : ℕ) (cuts : List ℕ) → end ≤ from → IsCutFrom from size cuts → (how_many end cuts ≡ 0) × (cuts_below end cuts ≡ [])
none_below size end from [] high rise = (refl, refl)
none_below size end from (c ∷ cuts) high rise = by_cases (nat_lt c end) refl (none_below size end c cuts (omega arith) rise.2)
  where
    by_cases : (b : Bool) → nat_lt c end ≡ b → (how_many end cuts ≡ 0) × (cuts_below end cuts ≡ []) → (cond b (1 + how_many end cuts) (how_many end cuts) ≡ 0) × (cond b (c ∷ cuts_below end cuts) (cuts_below end cuts) ≡ [])
    by_cases true is none = let low = ltb-true c end is in absurd (omega (arith, rise.0))
    by_cases false is none = none

-- the cuts below an end are the first ones, and rise
below_first : (size end from : ℕ) (cuts : List ℕ) → IsCutFrom from size cuts → (take (how_many end cuts) cuts ≡ cuts_below end cuts) × IsCutFrom from end (cuts_below end cuts)
below_first size end from [] rise = (refl, tt)
below_first size end from (c ∷ cuts) rise = by_cases (nat_lt c end) refl (below_first size end c cuts rise.2)
  where
    by_cases : (b : Bool) → nat_lt c end ≡ b → (take (how_many end cuts) cuts ≡ cuts_below end cuts) × IsCutFrom c end (cuts_below end cuts)
        → (take (cond b (1 + how_many end cuts) (how_many end cuts)) (c ∷ cuts) ≡ cond b (c ∷ cuts_below end cuts) (cuts_below end cuts)) × IsCutFrom from end (cond b (c ∷ cuts_below end cuts) (cuts_below end cuts))
    by_cases true is more =
        let next : 1 + how_many end cuts ≡ suc (how_many end cuts) = omega arith in
        (rw next (ap (λ xs. c ∷ xs) more.0), (rise.0, ltb-true c end is, more.1))
    by_cases false is more =
        let high : end ≤ c = ltb-false c end is in
        let none = none_below size end c cuts high rise.2 in
        (ap (λ n. take n (c ∷ cuts)) none.0 ∙ sym none.1, subst (λ xs. IsCutFrom from end xs) (sym none.1) tt)

pub first_cuts : (size end : ℕ) (cuts : List ℕ) → IsCutFrom 0 size cuts → take (count_by (λ c. nat_lt c end) cuts) cuts ≡ cuts_below end cuts
first_cuts size end cuts rise = ap (λ n. take n cuts) (sym (is_count_by (how_many end) (λ c. nat_lt c end) refl (λ c cs. refl) cuts)) ∙ (below_first size end 0 cuts rise).0

pub cuts_rise : (size end : ℕ) (cuts : List ℕ) → IsCutFrom 0 size cuts → IsCutFrom 0 end (cuts_below end cuts)
cuts_rise size end cuts rise = (below_first size end 0 cuts rise).1

some_bytes : (bytes : List ℕ) (none some : List (List ℕ)) → 0 < length bytes → (if length bytes == 0 then none else some) ≡ some
some_bytes [] none some long = absurd (omega arith)
some_bytes (b ∷ bytes) none some long = grind arith

no_bytes : (bytes : List ℕ) (none some : List (List ℕ)) → length bytes ≡ 0 → (if length bytes == 0 then none else some) ≡ none
no_bytes [] none some is = refl
no_bytes (b ∷ bytes) none some is = absurd (omega arith)

-- a cut takes the first piece off
pub piece_before : (from c : ℕ) (cuts bytes : List ℕ) → from < c → c < from + length bytes → pieces_from from (c ∷ cuts) bytes ≡ take (c - from) bytes ∷ pieces_from c cuts (drop (c - from) bytes)
piece_before from c cuts bytes above within =
    some_bytes bytes [] (cut_at from (c ∷ cuts) bytes) (omega arith)
    ∙ ap (λ rest. take (c - from) bytes ∷ rest) (sym (some_bytes (drop (c - from) bytes) [] (cut_at c cuts (drop (c - from) bytes)) (omega (arith, length-drop (c - from) bytes))))

-- without a cut the first piece is the last
pub piece_last : (from end : ℕ) (bytes : List ℕ) → 0 < length bytes → end ≡ from + length bytes → pieces_from from [] bytes ≡ take (end - from) bytes ∷ pieces_from end [] (drop (end - from) bytes)
piece_last from end bytes some is =
    let whole : end - from ≡ length bytes = omega arith in
    let none : drop (end - from) bytes ≡ [] = drop_all (end - from) bytes (omega arith) in
    some_bytes bytes [] (bytes ∷ []) some ∙ rw (none, take_all (end - from) bytes (omega arith)) refl

-- bytes are a piece
pub some_left : (from : ℕ) (cuts bytes : List ℕ) → 0 < length bytes → 0 < length (pieces_from from cuts bytes)
some_left from cuts bytes some = rw (some_bytes bytes [] (cut_at from cuts bytes) some) (by_cases cuts)
  where
    by_cases : (cs : List ℕ) → 0 < length (cut_at from cs bytes)
    by_cases [] = omega arith
    by_cases (c ∷ cs) = omega arith

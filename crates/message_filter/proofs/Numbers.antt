-- A list that is found by the places of its elements.
use Rattle.std.proofs.Common.{ap, arith, refl, sym, ◌∙◌}
use Rattle.std.proofs.lemmas.List.FromFn.{length-range_with_len}
use Rattle.std.proofs.lemmas.List.Sums.{count_by-le-length, length-filter}
use Rattle.std.specs.Prelude.{◌≡◌, ◌+◌, ◌++◌, ◌≤◌, ◌∷◌, [], List, None, Some, length, slice_get, suc, take, zero, ℕ}
use Rattle.std.specs.List.{range_with_len}
use Rattle.history_entry.specs.declared.entry.Entry.{Entry}
use Rattle.history_rules.proofs.Growth.{take_next}
use Rattle.history_rules.specs.Documents.{current_documents, is_current}
use Rattle.history_rules.specs.Frames.{navigations_made}
use Rattle.script_model.specs.ScriptData.{ScriptData}

pub one_further : (xs numbers : List ℕ) (i x : ℕ) → numbers ≡ take i xs → Some x ≡ slice_get xs i → numbers ++ x ∷ [] ≡ take (i + 1) xs
one_further xs numbers i x was here =
    let place : suc i ≡ i + 1 = omega arith in
    ap (λ ys. ys ++ x ∷ []) was ∙ sym (take_next xs i x (sym here)) ∙ ap (λ n. take n xs) place

take_whole : (xs : List ℕ) (n : ℕ) → length xs ≤ n → take n xs ≡ xs
take_whole [] zero few = refl
take_whole [] (suc n) few = refl
take_whole (x ∷ xs) zero few = absurd (omega arith)
take_whole (x ∷ xs) (suc n) few = ap (λ ys. x ∷ ys) (take_whole xs n (omega arith))

past_end : (xs : List ℕ) (i : ℕ) → slice_get xs i ≡ None → length xs ≤ i
past_end [] i none = omega arith
past_end (x ∷ xs) zero none = absurd (cc)
past_end (x ∷ xs) (suc i) none = let few : length xs ≤ i = past_end xs i none in omega arith

pub none_further : (xs numbers : List ℕ) (i : ℕ) → numbers ≡ take i xs → None ≡ slice_get xs i → numbers ≡ xs
none_further xs numbers i was none = was ∙ take_whole xs i (past_end xs i (sym none))

pub all_current : (s : ScriptData) (h : List Entry) (numbers : List ℕ) (made : ℕ) → numbers ≡ take made (current_documents s h) → made ≡ navigations_made s h → numbers ≡ current_documents s h
all_current s h numbers made was is =
    let counted = length-filter (is_current s h) (range_with_len 0 (navigations_made s h)) in
    let few = count_by-le-length (is_current s h) (range_with_len 0 (navigations_made s h)) in
    let long = length-range_with_len 0 (navigations_made s h) in
    let fits : length (current_documents s h) ≤ made = omega arith in
    was ∙ take_whole (current_documents s h) made fits

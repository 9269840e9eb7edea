-- What a function gives of the entries of a list, one entry longer.
use Rattle.std.proofs.Common.{ap, ◌∙◌, refl, sym, get_or}
use Rattle.std.specs.Prelude.{◌≡◌, ◌+◌, ◌++◌, ◌<◌, ◌∷◌, [], Bool, List, None, Option, Some, cond, false, filter, filter_map, length, take, true, ℕ}
use Rattle.std.specs.List.{cons_option, range_with_len}
use Rattle.std.specs.Option.{option_to_list}
use Rattle.std.proofs.lemmas.List.{take_more}
use Rattle.std.proofs.lemmas.List.Elements.{filter-append, filter_map-append}
use Rattle.history_entry.specs.declared.entry.Entry.{Entry}
use Rattle.plain_facts.proofs.Counts.{range_more}

one_more : {A : Type 0} (f : Entry → Option A) (e : Entry) → filter_map f (e ∷ []) ≡ option_to_list (f e)
one_more f e = elim (f e) as (λ o. cons_option o [] ≡ option_to_list o) [ None ↦ refl | Some x ↦ refl ]

-- one turn of a loop that adds what the function gives
pub filter_step : {A : Type 0} (f : Entry → Option A) (h : List Entry) (i : ℕ) (e : Entry) (xs : List A) → i < length h → e ≡ get_or h i e → xs ≡ filter_map f (take i h) → xs ++ option_to_list (f e) ≡ filter_map f (take (i + 1) h)
filter_step f h i e xs lt is was =
    let more : take (i + 1) h ≡ take i h ++ e ∷ [] = take_more h i e lt ∙ ap (λ x. take i h ++ x ∷ []) (sym is) in
    ap (λ ys. ys ++ option_to_list (f e)) was ∙ ap (λ ys. filter_map f (take i h) ++ ys) (sym (one_more f e))
    ∙ sym (filter_map-append f (take i h) (e ∷ [])) ∙ ap (filter_map f) (sym more)

-- one turn behind a first element
pub follow_step : {A : Type 0} (f : Entry → Option A) (first : A) (h : List Entry) (i : ℕ) (e : Entry) (xs : List A) → i < length h → e ≡ get_or h i e → xs ≡ first ∷ filter_map f (take i h) → xs ++ option_to_list (f e) ≡ first ∷ filter_map f (take (i + 1) h)
follow_step f first h i e xs lt is was =
    ap (λ ys. ys ++ option_to_list (f e)) was ∙ ap (λ ys. first ∷ ys) (filter_step f h i e (filter_map f (take i h)) lt is refl)

filtered_one : (p : ℕ → Bool) (n : ℕ) → filter p (n ∷ []) ≡ cond (p n) (n ∷ []) []
filtered_one p n = elim (p n) as (λ b. cond b (n ∷ []) [] ≡ cond b (n ∷ []) []) [ true ↦ refl | false ↦ refl ]

-- one turn of a loop that adds the numbers that pass
pub filter_range_step : (p : ℕ → Bool) (n : ℕ) (xs : List ℕ) → xs ≡ filter p (range_with_len 0 n) → xs ++ cond (p n) (n ∷ []) [] ≡ filter p (range_with_len 0 (n + 1))
filter_range_step p n xs was =
    ap (λ ys. ys ++ cond (p n) (n ∷ []) []) was ∙ ap (λ ys. filter p (range_with_len 0 n) ++ ys) (sym (filtered_one p n))
    ∙ sym (filter-append p (range_with_len 0 n) (n ∷ [])) ∙ ap (filter p) (sym (range_more n))

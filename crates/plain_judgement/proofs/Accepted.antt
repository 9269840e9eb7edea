-- What is found in a list of entries, one entry longer.
use Rattle.std.proofs.Common.{◌≡◌, List, [], ◌∷◌, ◌++◌, Option, Some, None, refl, ap, ◌∙◌, sym, ℕ, ◌+◌, ◌<◌, length, take, get_or}
use Rattle.std.specs.Prelude.{filter_map}
use Rattle.std.specs.List.{cons_option}
use Rattle.std.specs.Option.{option_to_list}
use Rattle.std.proofs.lemmas.List.{take_more}
use Rattle.std.proofs.lemmas.List.Elements.{filter_map-append}
use Rattle.history_entry.specs.declared.entry.Entry.{Entry}

one_more : {A : Type 0} (f : Entry → Option A) (e : Entry) → filter_map f (e ∷ []) ≡ option_to_list (f e)
one_more f e = elim (f e) as (λ o. cons_option o [] ≡ option_to_list o) [ None ↦ refl | Some x ↦ refl ]

-- one turn of a loop that keeps what it found
pub found_step : {A : Type 0} (f : Entry → Option A) (h : List Entry) (i : ℕ) (e : Entry) (found : List A) → i < length h → e ≡ get_or h i e → found ≡ filter_map f (take i h) → found ++ option_to_list (f e) ≡ filter_map f (take (i + 1) h)
found_step f h i e found lt is was =
    let more : take (i + 1) h ≡ take i h ++ e ∷ [] = take_more h i e lt ∙ ap (λ x. take i h ++ x ∷ []) (sym is) in
    ap (λ xs. xs ++ option_to_list (f e)) was
    ∙ sym (ap (filter_map f) more ∙ filter_map-append f (take i h) (e ∷ []) ∙ ap (λ xs. filter_map f (take i h) ++ xs) (one_more f e))

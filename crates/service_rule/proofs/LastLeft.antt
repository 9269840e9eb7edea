-- What the last set or remove of a key left, one request longer.
use Rattle.std.proofs.Common.{ap, ◌∙◌, refl, sym}
use Rattle.std.proofs.lemmas.List.{take_more}
use Rattle.std.proofs.lemmas.List.Elements.{filter_map-append}
use Rattle.std.specs.List.{cons_option}
use Rattle.std.specs.Option.{option_map, option_or}
use Rattle.std.specs.Prelude.{◌≡◌, ◌+◌, ◌++◌, ◌<◌, ◌∷◌, [], List, None, Option, Some, filter_map, get_or, length, option_and_then, take, ℕ}
use Rattle.service_rule.specs.KeyRequests.{store_requests}
use Rattle.service_rule.specs.Store.{StoreRequest, last_left, leaves, store_request}
use Rattle.service_rule.specs.declared.service.Asked.{Asked}

or_assoc : {A : Type 0} (a b c : Option A) → option_or (option_or a b) c ≡ option_or a (option_or b c)
or_assoc None b c = refl
or_assoc (Some x) b c = refl

or_none : {A : Type 0} (a : Option A) → option_or a None ≡ a
or_none None = refl
or_none (Some x) = refl

pub map_or : {A B : Type 0} (f : A → B) (a b : Option A) → option_map f (option_or a b) ≡ option_or (option_map f a) (option_map f b)
map_or f None b = refl
map_or f (Some x) b = refl

left_more : (key : List ℕ) (earlier : List StoreRequest) (next : Option StoreRequest) → last_left key (earlier ++ cons_option next []) ≡ option_or (option_and_then (leaves key) next) (last_left key earlier)
left_more key [] None = refl
left_more key [] (Some r) = sym (or_none (leaves key r))
left_more key (e ∷ earlier) None = ap (λ o. option_or o (leaves key e)) (left_more key earlier None)
left_more key (e ∷ earlier) (Some r) = ap (λ o. option_or o (leaves key e)) (left_more key earlier (Some r)) ∙ or_assoc (leaves key r) (last_left key earlier) (leaves key e)

one_more : (asked : Asked) → store_requests (asked ∷ []) ≡ cons_option (store_request asked.request) []
one_more asked = elim (store_request asked.request) as (λ o. cons_option o [] ≡ cons_option o []) [ None ↦ refl | Some x ↦ refl ]

-- one turn of a loop that keeps what was left
pub last_left_step : (key : List ℕ) (h : List Asked) (i : ℕ) (e : Asked) (last : Option (Option (List ℕ))) → i < length h → e ≡ get_or h i e → last ≡ last_left key (store_requests (take i h)) → option_or (option_and_then (leaves key) (store_request e.request)) last ≡ last_left key (store_requests (take (i + 1) h))
last_left_step key h i e last lt is was =
    let more : take (i + 1) h ≡ take i h ++ e ∷ [] = take_more h i e lt ∙ ap (λ x. take i h ++ x ∷ []) (sym is) in
    let given : store_requests (take (i + 1) h) ≡ store_requests (take i h) ++ cons_option (store_request e.request) [] =
    ap store_requests more ∙ filter_map-append (λ asked. store_request asked.request) (take i h) (e ∷ []) ∙ ap (λ xs. store_requests (take i h) ++ xs) (one_more e) in
    ap (λ o. option_or (option_and_then (leaves key) (store_request e.request)) o) was
    ∙ sym (left_more key (store_requests (take i h)) (store_request e.request)) ∙ ap (last_left key) (sym given)

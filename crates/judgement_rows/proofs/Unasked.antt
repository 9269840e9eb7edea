-- Histories in which no service answered: services that keep nothing are in step with them.
use Rattle.std.proofs.Common.{ap, arith, get_or, length, refl, sym, take, ◌∙◌, ◌+◌}
use Rattle.std.specs.Prelude.{◌≡◌, ◌<◌, ◌++◌, ◌∷◌, [], List, None, Option, filter_map, ℕ}
use Rattle.std.specs.List.{cons_option}
use Rattle.std.proofs.lemmas.List.{take_more}
use Rattle.std.proofs.lemmas.List.Elements.{filter_map-append}
use Rattle.page_origin.specs.declared.origin.Origin.TheVariants.{Opaque, Tuple}
use Rattle.page_origin.specs.declared.origin.TupleOrigin.{TupleOrigin}
use Rattle.history_entry.specs.declared.body.Body.{Body}
use Rattle.history_entry.specs.declared.body.Body.TheVariants.{AddFrame, Ask, DidCommit, Fetch, Navigate, OpenPage, Post, RemoveFrame}
use Rattle.history_entry.specs.declared.entry.Entry.{Entry}
use Rattle.history_rules.specs.Services.{accepted_requests, asked_in}
use Rattle.message_filter.specs.Asking.{HaveRoom, KeepAccepted, Kept}

-- no request was answered
pub record IsUnasked (h : List Entry) : Type 0 where
  pub none : (name : List ℕ) (tuple : TupleOrigin) → accepted_requests h name tuple ≡ []

-- where there is no entry
pub none_asked : IsUnasked []
unfolding accepted_requests
none_asked = record { none = λ name tuple. refl }

found_none : {A : Type 0} (f : Entry → Option A) (e : Entry) → f e ≡ None → filter_map f (e ∷ []) ≡ []
found_none f e none = ap (λ o. cons_option o []) none

-- one entry more that is no answer
pub one_more : (h : List Entry) (i : ℕ) (e : Entry) → i < length h → e ≡ get_or h i e → ((name : List ℕ) (tuple : TupleOrigin) → asked_in name tuple e ≡ None)
    → IsUnasked (take i h) → IsUnasked (take (i + 1) h)
unfolding accepted_requests
one_more h i e lt is none before = record {
  none = λ name tuple.
      let more : take (i + 1) h ≡ take i h ++ e ∷ [] = take_more h i e lt ∙ ap (λ x. take i h ++ x ∷ []) (sym is) in
      ap (filter_map (asked_in name tuple)) more ∙ filter_map-append (asked_in name tuple) (take i h) (e ∷ [])
      ∙ ap (λ xs. filter_map (asked_in name tuple) (take i h) ++ xs) (found_none (asked_in name tuple) e (none name tuple))
      ∙ ap (λ xs. xs ++ []) (before.none name tuple);
}

-- services that keep nothing may be asked
pub nothing_kept : (kept : Kept) (h : List Entry) (body : Body) → ((name : List ℕ) (tuple : TupleOrigin) → kept name tuple ≡ [])
    → ((name : List ℕ) (tuple : TupleOrigin) → accepted_requests h name tuple ≡ []) → KeepAccepted kept h body
nothing_kept kept h (Ask service (Tuple o) request) empty none = λ name. empty name o ∙ sym (none name o)
nothing_kept kept h (Ask service (Opaque o) request) empty none = tt
nothing_kept kept h (Navigate frame url initiator) empty none = tt
nothing_kept kept h (AddFrame src sandbox) empty none = tt
nothing_kept kept h (RemoveFrame frame) empty none = tt
nothing_kept kept h (OpenPage url) empty none = tt
nothing_kept kept h (Fetch url mode initiator) empty none = tt
nothing_kept kept h (Post frame target source text) empty none = tt
nothing_kept kept h (DidCommit nav url origin) empty none = tt

-- and have room for a request
pub all_room : (kept : Kept) (body : Body) → ((name : List ℕ) (tuple : TupleOrigin) → kept name tuple ≡ []) → HaveRoom kept body
all_room kept (Ask service (Tuple o) request) empty = let none : length (kept service o) ≡ 0 = ap length (empty service o) in omega (arith, none)
all_room kept (Ask service (Opaque o) request) empty = tt
all_room kept (Navigate frame url initiator) empty = tt
all_room kept (AddFrame src sandbox) empty = tt
all_room kept (RemoveFrame frame) empty = tt
all_room kept (OpenPage url) empty = tt
all_room kept (Fetch url mode initiator) empty = tt
all_room kept (Post frame target source text) empty = tt
all_room kept (DidCommit nav url origin) empty = tt

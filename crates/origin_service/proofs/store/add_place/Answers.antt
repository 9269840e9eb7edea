use Rattle.std.proofs.Common.{◌≡◌, ◌++◌, ◌∙◌, ◌∷◌, [], List, Some, ap, length, sym, true}
use Rattle.std.specs.List.{position}
use Rattle.page_origin.specs.Origins.{equal_tuples}
use Rattle.origin_service.proofs.Origins.{tuple_itself}
use Rattle.origin_service.proofs.Placing.{kept_with_empty, place_added}
use Rattle.origin_service.specs.Shelves.{ShelfData, kept_of}
use Rattle.origin_service.proofs.store.add_place.Goals as goal

pub returns-clause-place : goal.returns-clause-place
returns-clause-place c =
    let shelf : ShelfData = record { origin = c.in_ok-own.own; kept = [] } in
    let own : equal_tuples c.args.origin.now c.in_ok-own.own ≡ true = ap (equal_tuples c.args.origin.now) c.in_ok-own.ensures ∙ tuple_itself c.args.origin.now in
    ap (position (λ (s : ShelfData). equal_tuples c.args.origin.now s.origin)) (c.in_ok-push.ensures.items ∙ ap (λ (s : ShelfData). c.args.shelves.now.items ++ s ∷ []) c.new.ensures)
    ∙ place_added (λ (s : ShelfData). equal_tuples c.args.origin.now s.origin) c.args.shelves.now.items shelf own c.requires
    ∙ ap (λ n. Some n) (sym (ap length c.as_slice-place.ensures.value))

pub returns-clause-kept : goal.returns-clause-kept
returns-clause-kept c = λ tuple.
    ap (λ (xs : List ShelfData). kept_of xs tuple) (c.in_ok-push.ensures.items ∙ ap (λ (s : ShelfData). c.args.shelves.now.items ++ s ∷ []) c.new.ensures)
    ∙ kept_with_empty c.args.shelves.now.items c.in_ok-own.own tuple

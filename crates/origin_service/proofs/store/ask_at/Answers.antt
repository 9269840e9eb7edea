use Rattle.std.proofs.Common.{◌≡◌, ◌∙◌, IfOk, List, ap, get_or, set, subst, sym}
use Rattle.std.proofs.lemmas.List.Quantifiers.{position-Some}
use Rattle.page_origin.specs.Origins.{equal_tuples}
use Rattle.service_rule.specs.KeyRequests.{key_request, store_requests}
use Rattle.service_rule.specs.Store as store
use Rattle.service_rule.specs.declared.service.Asked.{Asked}
use Rattle.origin_service.proofs.Placing.{gains_at, kept_at}
use Rattle.origin_service.specs.Kept.{accepted}
use Rattle.origin_service.specs.Shelves.{ShelfData, kept_of}
use Rattle.origin_service.proofs.store.ask_at.Goals as goal

pub returns-clause-answer : goal.returns-clause-answer
returns-clause-answer c =
    let shelf : ShelfData = c.index-shelves-place.result in
    let found = position-Some (λ (s : ShelfData). equal_tuples c.args.origin.now s.origin) c.args.shelves.now c.args.place shelf c.requires.place in
    let same : kept_of c.args.shelves.now c.args.origin.now ≡ (get_or c.args.shelves.now c.args.place shelf).kept =
    kept_at c.args.shelves.now c.args.place c.args.origin.now shelf found.0 found.1 found.2 in
    subst (λ (kept : List Asked). IfOk c.ask.result (λ answer. answer ≡ store.answer_request (store_requests kept) (key_request c.args.request))) (sym same) c.ask.ensures.answer

pub returns-clause-kept : goal.returns-clause-kept
returns-clause-kept c = λ tuple.
    let shelf : ShelfData = c.index-shelves-place.result in
    let more : List Asked = accepted c.ask.result c.args.document c.args.text.now in
    let found = position-Some (λ (s : ShelfData). equal_tuples c.args.origin.now s.origin) c.args.shelves.now c.args.place shelf c.requires.place in
    ap (λ (s : ShelfData). kept_of (set c.args.shelves.now c.args.place s) tuple) c.ask.ensures.kept
    ∙ gains_at c.args.shelves.now c.args.place c.args.origin.now tuple shelf more found.0 found.1 found.2

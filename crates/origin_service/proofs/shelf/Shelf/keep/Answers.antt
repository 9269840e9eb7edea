use Rattle.std.proofs.Common.{◌++◌, ◌∙◌, ◌∷◌, [], List, ap}
use Rattle.service_rule.specs.KeyRequests.{key_request, store_requests}
use Rattle.service_rule.specs.Store.{store_request}
use Rattle.service_rule.specs.declared.service.Asked.{Asked}
use Rattle.origin_service.proofs.Holding.{holds_more}
use Rattle.origin_service.proofs.shelf.Shelf.keep.Goals as goal

pub invariant_of-self-2 : goal.invariant_of-self-2
invariant_of-self-2 c =
    let asked : Asked = record { document = c.args.document; request = c.in_ok-request_text.request_text } in
    holds_more c.change_keys.new.keys c.self.inside.kept.items c.push_within.new.kept.items asked (key_request c.args.request)
    (c.push_within.ensures ∙ ap (λ (xs : List Asked). xs ++ asked ∷ []) c.in_ok-reserve.ensures.items)
    (ap store_request c.in_ok-request_text.ensures ∙ c.requires)
    (c.in_ok-change_keys.ensures.ok (store_requests c.self.inside.kept.items) c.self.invariant)

use Rattle.std.proofs.Common.{◌+◌, ◌∙◌, ap}
use Rattle.std.specs.BTreeMap.{btree_map_len}
use Rattle.std.specs.Prelude.{if◌then◌else◌, is_some}
use Rattle.origin_service.proofs.Holding.{holds_set_text}
use Rattle.origin_service.proofs.shelf.set_key.Goals as goal

pub returns-clause-ok : goal.returns-clause-ok
returns-clause-ok c = λ earlier holds. holds_set_text c.args.keys.now c.insert.new.self c.in_ok-key.key c.in_ok-value.value c.args.key.now c.args.value.now earlier
    c.in_ok-key.ensures.ok c.in_ok-value.ensures.ok c.in_ok-insert.ensures.updates
    (c.in_ok-insert.ensures.len ∙ ap (λ o. btree_map_len c.args.keys.now + (if is_some o then 0 else 1)) c.in_ok-insert.ensures.old) holds

use Rattle.std.proofs.Common.{◌+◌, ◌∙◌, ap, sym}
use Rattle.std.specs.BTreeMap.{btree_map_len}
use Rattle.std.specs.Prelude.{if◌then◌else◌, is_some}
use Rattle.origin_service.proofs.Holding.{holds_remove}
use Rattle.origin_service.proofs.shelf.remove_key.Goals as goal

pub returns : goal.returns
returns c = λ earlier holds. holds_remove c.args.keys.now c.remove.new.self c.args.key.now earlier c.remove.ensures.updates
    (ap (λ o. btree_map_len c.remove.new.self + (if is_some o then 1 else 0)) (sym c.remove.ensures.value) ∙ c.remove.ensures.len) holds

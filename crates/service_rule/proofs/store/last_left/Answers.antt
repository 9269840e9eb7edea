use Rattle.std.proofs.Common.{ap, ◌∙◌}
use Rattle.std.specs.Option.{option_copied, option_map, option_or}
use Rattle.service_rule.proofs.LastLeft.{last_left_step, map_or}
use Rattle.service_rule.proofs.store.last_left.Goals as goal

pub loop-asked-preserved : goal.loop-asked-preserved
loop-asked-preserved c =
    ap (λ o. option_map option_copied o) c.or-last.ensures ∙ map_or option_copied c.left_by.result c.loop-asked.last
    ∙ ap (λ o. option_or o (option_map option_copied c.loop-asked.last)) c.left_by.ensures
    ∙ last_left_step c.args.key.now c.args.earlier.now c.loop-asked.asked-index c.asked-item.result (option_map option_copied c.loop-asked.last) c.loop-asked-test.true c.asked-item.is c.loop-asked.invariant

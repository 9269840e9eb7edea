use Rattle.std.proofs.Common.{ap, ◌∙◌}
use Rattle.std.specs.Option.{option_map, option_or}
use Rattle.history_rules.specs.Orders.{order_in}
use Rattle.entry_facts.specs.Orders.{order_view}
use Rattle.plain_facts.proofs.LastMatch.{map_or, last_match_step}
use Rattle.plain_facts.proofs.orders.order_of.Goals as goal

pub loop-entry-preserved : goal.loop-entry-preserved
loop-entry-preserved c =
    ap (λ o. option_map order_view o) c.or-last.ensures ∙ map_or order_view c.order_in.result c.loop-entry.last
    ∙ ap (λ o. option_or o (option_map order_view c.loop-entry.last)) c.order_in.ensures
    ∙ last_match_step (order_in c.args.navigation) c.args.entries.now c.loop-entry.entry-index c.entry-item.result (option_map order_view c.loop-entry.last) c.loop-entry-test.true c.entry-item.is c.loop-entry.invariant

use Rattle.std.proofs.Common.{◌≡◌, take}
use Rattle.std.specs.Option.{option_map}
use Rattle.history_rules.specs.Entries.{last_match}
use Rattle.history_rules.specs.Orders.{order_in}
use Rattle.entry_facts.specs.Orders.{order_view}
use Rattle.plain_facts.proofs.orders.order_of.Given as goal

abbrev pub invariant-loop-entry : goal.invariant-loop-entry
invariant-loop-entry l = option_map order_view l.last ≡ last_match (order_in l.navigation) (take l.entry-index l.entries)

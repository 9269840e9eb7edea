use Rattle.std.proofs.Common.{◌≡◌, take}
use Rattle.std.specs.Option.{option_copied}
use Rattle.history_rules.specs.Entries.{last_match}
use Rattle.history_rules.specs.Orders.{lock_in}
use Rattle.plain_facts.proofs.processes.ordered_site.Given as goal

abbrev pub invariant-loop-entry : goal.invariant-loop-entry
invariant-loop-entry l = option_copied l.last ≡ last_match (lock_in l.process) (take l.entry-index l.entries)

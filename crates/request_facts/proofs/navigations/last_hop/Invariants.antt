use Rattle.std.proofs.Common.{◌≡◌, take}
use Rattle.std.specs.Option.{option_copied}
use Rattle.history_rules.specs.Entries.{last_match}
use Rattle.history_rules.specs.Navigations.{hop_of_navigation}
use Rattle.request_facts.proofs.navigations.last_hop.Given as goal

abbrev pub invariant-loop-entry : goal.invariant-loop-entry
invariant-loop-entry l = option_copied l.last ≡ last_match (hop_of_navigation l.navigation) (take l.entry-index l.entries)

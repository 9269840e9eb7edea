use Rattle.std.proofs.Common.{◌≡◌, ◌∷◌, [], take}
use Rattle.std.specs.Prelude.{filter_map, unwrap_or}
use Rattle.history_rules.specs.Navigations.{hop_of_navigation}
use Rattle.request_facts.proofs.navigations.with_hops.Given as goal

abbrev pub invariant-loop-entry : goal.invariant-loop-entry
invariant-loop-entry l = l.chain ≡ unwrap_or l.fn.first [] ∷ filter_map (hop_of_navigation l.navigation) (take l.entry-index l.entries)

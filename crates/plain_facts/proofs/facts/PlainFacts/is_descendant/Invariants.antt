use Rattle.std.proofs.Common.{◌≡◌}
use Rattle.std.specs.Prelude.{◌==◌, drop, suc}
use Rattle.std.specs.List.{list_any}
use Rattle.std.specs.Option.{option_map_or}
use Rattle.history_rules.specs.Frames.{lineage}
use Rattle.plain_facts.specs.Climbs.{lineage_from}
use Rattle.plain_facts.proofs.facts.PlainFacts.is_descendant.Given as goal

abbrev pub invariant-loop-next : goal.invariant-loop-next
invariant-loop-next l = list_any (λ g. g == l.ancestor) (lineage_from l.self.script l.self.entries l.next) ≡ list_any (λ g. g == l.ancestor) (drop 1 (lineage l.self.script l.self.entries l.frame))

abbrev pub decreases-loop-next : goal.decreases-loop-next
decreases-loop-next l = option_map_or (λ climb. suc climb.left) l.next 0

use Rattle.std.proofs.Common.{◌≡◌}
use Rattle.std.specs.Prelude.{None, Some, suc}
use Rattle.std.specs.List.{last_or}
use Rattle.std.specs.Option.{option_map_or}
use Rattle.history_rules.specs.Frames.{makers_within}
use Rattle.plain_facts.specs.Climbs.{makers_from}
use Rattle.plain_facts.proofs.facts.PlainFacts.first_maker.Given as goal

abbrev pub invariant-loop-next : goal.invariant-loop-next
invariant-loop-next l = last_or (Some l.first) (makers_from l.self.script l.self.entries l.next) ≡ last_or None (makers_within l.self.script l.self.entries (suc l.fn.frame) l.fn.frame)

abbrev pub decreases-loop-next : goal.decreases-loop-next
decreases-loop-next l = option_map_or (λ climb. suc climb.left) l.next 0

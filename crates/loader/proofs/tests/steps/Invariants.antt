use Rattle.std.proofs.Common.{◌≤◌}
use Rattle.loader.specs.Loads.{taken_count}
use Rattle.loader.proofs.tests.steps.Given as goal

-- each step takes at most one piece
abbrev pub invariant-loop-number : goal.invariant-loop-number
invariant-loop-number l = taken_count l.load.progress ≤ l.number

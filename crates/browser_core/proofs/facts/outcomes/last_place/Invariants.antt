use Rattle.std.proofs.Common.{◌≤◌, length}
use Rattle.browser_core.proofs.facts.outcomes.last_place.Given as goal
use Rattle.browser_core.specs.Walking.{NoneFrom}

abbrev pub invariant-loop-place : goal.invariant-loop-place
invariant-loop-place l = (l.place ≤ length l.entries) × NoneFrom l.script l.entries l.outcome l.place

abbrev pub decreases-loop-place : goal.decreases-loop-place
decreases-loop-place l = l.place

use Rattle.std.proofs.Common.{◌-◌, length}
use Rattle.history_steps.specs.Run.{EachPlace, IsFirst}
use Rattle.history.proofs.run.run1.Given as goal

abbrev pub invariant-loop-history : goal.invariant-loop-history
invariant-loop-history g l = EachPlace (IsFirst g.R.ServiceRule.rule l.script) l.history

abbrev pub decreases-loop-history : goal.decreases-loop-history
decreases-loop-history g l = 400000 - length l.history

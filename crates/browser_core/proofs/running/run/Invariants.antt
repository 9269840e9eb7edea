use Rattle.std.proofs.Common.{◌≡◌, ◌-◌, length}
use Rattle.history_steps.specs.Run.{EachPlace, IsFirst}
use Rattle.browser_core.proofs.running.run.Given as goal

abbrev pub invariant-loop-core : goal.invariant-loop-core
invariant-loop-core g l = (l.core.script ≡ l.script) × EachPlace (IsFirst g.V.Service.rule l.script) l.core.entries

abbrev pub decreases-loop-core : goal.decreases-loop-core
decreases-loop-core g l = 400000 - length l.core.entries

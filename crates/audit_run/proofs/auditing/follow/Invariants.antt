use Rattle.std.proofs.Common.{◌≡◌}
use Rattle.history_steps.specs.Run.{Legal}
use Rattle.audit_run.proofs.auditing.follow.Given as goal

abbrev pub invariant-loop-entry : goal.invariant-loop-entry
invariant-loop-entry g l = record { so_far : l.history ≡ l.yielded; legal : Legal g.R.ServiceRule.rule l.script l.history }

use Rattle.std.proofs.Common.{◌≡◌}
use Rattle.worker_rows.proofs.tests.works.core_after.Given as goal

abbrev pub invariant-loop : goal.invariant-loop
invariant-loop l = l.core.script ≡ l.fn.script

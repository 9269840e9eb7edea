use Rattle.std.proofs.Common.{◌≡◌}
use Rattle.policy_table.proofs.tests.a_second_thread_changes_its_own_row.Given as goal

abbrev pub invariant-loop-process : goal.invariant-loop-process
invariant-loop-process g l = (l.pass.desk ≡ l.initial.pass.desk) × (l.pass.weight ≡ l.initial.pass.weight)

abbrev pub invariant-loop-process-2 : goal.invariant-loop-process-2
invariant-loop-process-2 g l = (l.unmet.desk ≡ l.initial.unmet.desk) × (l.unmet.weight ≡ l.initial.unmet.weight)

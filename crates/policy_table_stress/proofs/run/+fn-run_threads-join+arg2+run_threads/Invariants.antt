use Rattle.std.proofs.Common.{◌*◌, ◌-◌}
use Rattle.policy_table_stress.proofs.run.+fn-run_threads-join+arg2+run_threads.Given as goal

-- the threads that are left: a thread's closure comes between two calls
abbrev pub decreases-join+arg2 : goal.decreases-join+arg2
decreases-join+arg2 g l = l.threads * 2 - 1

abbrev pub decreases-run_threads : goal.decreases-run_threads
decreases-run_threads g l = l.threads * 2

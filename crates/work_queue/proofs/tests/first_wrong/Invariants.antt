use Rattle.std.proofs.Common.{◌+◌, ◌≤◌}
use Rattle.work_queue.specs.Work.{task_count}
use Rattle.work_queue.proofs.tests.first_wrong.Given as goal

abbrev pub invariant-loop-index : goal.invariant-loop-index
invariant-loop-index l = task_count l.tasks ≤ task_count l.initial.tasks + l.index

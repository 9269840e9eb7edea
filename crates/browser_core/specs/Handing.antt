-- How a task is handed out: it passes through the queue. Own rules.
use Rattle.std.specs.Prelude.{◌≡◌, ◌++◌, ◌∷◌, [], List, None, Some, length, ℕ}
use Rattle.history_entry.specs.declared.entry.Entry.{Entry}
use Rattle.script_model.specs.ScriptData.{ScriptData}
use Rattle.work_queue.specs.Keys.{key_of}
use Rattle.work_queue.specs.Work.{Work}
use Rattle.work_queue.specs.declared.task.Kind.{Kind}
use Rattle.work_queue.specs.declared.task.Task.{Task}
use Rattle.work_queue.specs.declared.task.TaskKey.{TaskKey}
use Rattle.work_queue.specs.declared.tasks.Claim.{Claim}
use Rattle.work_queue.specs.declared.tasks.Claim.TheVariants.{None as NoTask, Task as OneTask}
use Rattle.browser_tasks.specs.Readiness.{ChoosesWell}
use Rattle.browser_tasks.specs.TaskData.{HoldsFacts}

-- the task was handed out, and nothing waits in the queue
pub record HandsOver (task : Task) (old new : Work) (claim : Claim) : Type 0 where
  pub claimed : claim ≡ OneTask task
  pub out : new.out ≡ old.out ++ key_of task ∷ []
  pub none : new.ready ≡ []

-- a ready task was handed out, or none is ready and so many are out, whatever the services' rule is
abbrev pub ClaimsWell : ScriptData → List Entry → Kind → List TaskKey → List TaskKey → Claim → Type 0
ClaimsWell s h kind old new (OneTask task) =
    ChoosesWell s h old kind (Some (key_of task)) × HoldsFacts s h task × (new ≡ old ++ key_of task ∷ [])
ClaimsWell s h kind old new (NoTask count) = ChoosesWell s h old kind None × (count ≡ length old) × (new ≡ old)

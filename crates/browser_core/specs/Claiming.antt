-- What a core answers a worker that asks for a task. Own rules.
use Rattle.std.specs.Prelude.{◌≡◌, ◌++◌, ◌∷◌, [], length, ℕ}
use Rattle.service_rule.specs.Services.{ServiceRule}
use Rattle.history_steps.specs.Run.{Finished}
use Rattle.work_queue.specs.Keys.{key_of}
use Rattle.work_queue.specs.declared.task.Kind.{Kind}
use Rattle.work_queue.specs.declared.task.Task.{Task}
use Rattle.work_queue.specs.declared.tasks.Claim.{Claim}
use Rattle.work_queue.specs.declared.tasks.Claim.TheVariants.{None as NoTask, Task as OneTask}
use Rattle.browser_tasks.specs.Readiness.{IsChosen, NoneReady}
use Rattle.browser_tasks.specs.TaskData.{HoldsFacts}
use Rattle.browser_core.specs.Cores.{CoreData}

-- a ready task, of the asked kind if one of that kind is ready, with the facts of the history; it is out now
pub record HandsOut (rule : ServiceRule) (kind : Kind) (old new : CoreData) (task : Task) : Type 0 where
  pub chosen : IsChosen rule old.script old.entries old.out kind (key_of task)
  pub holds : HoldsFacts old.script old.entries task
  pub out : new.out ≡ old.out ++ key_of task ∷ []
  pub entries : new.entries ≡ old.entries

-- nothing is ready, and so many tasks are out; where there are none the history is finished
pub record HasNone (rule : ServiceRule) (old new : CoreData) (count : ℕ) : Type 0 where
  pub none : NoneReady rule old.script old.entries old.out
  pub told : count ≡ length old.out
  pub same : new ≡ old
  pub over : count ≡ 0 → Finished rule old.script old.entries

-- a worker of this kind is answered so
abbrev pub Claims : ServiceRule → Kind → CoreData → CoreData → Claim → Type 0
Claims rule kind old new (OneTask task) = HandsOut rule kind old new task
Claims rule kind old new (NoTask count) = HasNone rule old new count

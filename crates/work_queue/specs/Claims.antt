-- What a worker is answered that asks for a task.
use Rattle.std.specs.Prelude.{◌≡◌, ◌+◌, ◌++◌, ◌∷◌, [], List, None, Option, Some, cond, count_by, length, ℕ}
use Rattle.work_queue.specs.declared.task.Kind.{Kind}
use Rattle.work_queue.specs.declared.task.Task.{Task}
use Rattle.work_queue.specs.declared.task.TaskKey.{TaskKey}
use Rattle.work_queue.specs.declared.tasks.Claim.{Claim}
use Rattle.work_queue.specs.declared.tasks.Claim.TheVariants.{None as NoTask, Task as OneTask}
use Rattle.work_queue.specs.Keys.{key_of}
use Rattle.work_queue.specs.Work.{SameTasks, Work, has_key, task_for, without_task}

-- the task is the one for this kind; it is out now, and its key is ready no longer
pub record HandsOut (kind : Kind) (old new : Work) (task : Task) : Type 0 where
  pub chosen : task_for kind old.ready ≡ Some task
  pub ready : new.ready ≡ without_task (key_of task) old.ready
  pub out : new.out ≡ old.out ++ key_of task ∷ []

-- nothing is ready, and so many tasks are out
pub record HasNone (old new : Work) (count : ℕ) : Type 0 where
  pub none : old.ready ≡ []
  pub told : count ≡ length old.out
  pub same : SameTasks old new

-- a worker of this kind is answered so
abbrev pub Answers : Kind → Work → Work → Claim → Type 0
Answers kind old new (OneTask task) = HandsOut kind old new task
Answers kind old new (NoTask count) = HasNone old new count

-- the task for this kind was taken out of the ready ones
pub record TakesOne (kind : Kind) (old new : List Task) (task : Task) : Type 0 where
  pub chosen : task_for kind old ≡ Some task
  pub rest : new ≡ without_task (key_of task) old
  pub counts : (key : TaskKey) → count_by (has_key key) new + cond (has_key key task) 1 0 ≡ count_by (has_key key) old

-- the same, or nothing is ready
abbrev pub Takes : Kind → List Task → List Task → Option Task → Type 0
Takes kind old new None = old ≡ []
Takes kind old new (Some task) = TakesOne kind old new task

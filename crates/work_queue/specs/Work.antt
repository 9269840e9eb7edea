-- The tasks that are ready and those that are out. Own rules.
use Rattle.std.specs.Prelude.{◌≡◌, ◌+◌, ◌≤◌, ◌||◌, Bool, List, Option, count_by, filter, find, length, not, slice_get, ℕ}
use Rattle.std.specs.List.{list_any}
use Rattle.std.specs.Option.{option_or}
use Rattle.work_queue.specs.declared.task.Kind.{Kind}
use Rattle.work_queue.specs.declared.task.Task.{Task}
use Rattle.work_queue.specs.declared.task.TaskKey.{TaskKey}
use Rattle.work_queue.specs.Keys.{is_of, key_of, same_key}

-- the ready tasks in the order in which they were made ready, the keys of the tasks out in the order of their claims, and for
-- how many more tasks there is room
pub record Work : Type 0 where
  pub ready : List Task
  pub out : List TaskKey
  pub spare : ℕ

-- the task has this key
abbrev pub has_key : TaskKey → Task → Bool
has_key key task = same_key key (key_of task)

-- a task of this key is ready
abbrev pub is_ready : TaskKey → List Task → Bool
is_ready key ready = list_any (has_key key) ready

-- a task of this key is out
abbrev pub is_out : TaskKey → List TaskKey → Bool
is_out key out = list_any (same_key key) out

-- a task of this key is ready or out
abbrev pub has_task : TaskKey → Work → Bool
has_task key work = is_ready key work.ready || is_out key work.out

-- the ready tasks of other keys, in their order
abbrev pub without_task : TaskKey → List Task → List Task
without_task key ready = filter (λ task. not (has_key key task)) ready

-- the other keys, in their order
abbrev pub without_key : TaskKey → List TaskKey → List TaskKey
without_key key out = filter (λ other. not (same_key key other)) out

-- how many tasks of this key are ready or out
abbrev pub count_of : TaskKey → List Task → List TaskKey → ℕ
count_of key ready out = count_by (has_key key) ready + count_by (same_key key) out

-- of each object at most one task is ready or out
pub record AreApart (ready : List Task) (out : List TaskKey) : Type 0 where
  pub at_most_one : (key : TaskKey) → count_of key ready out ≤ 1

-- how many tasks are ready or out
abbrev pub task_count : Work → ℕ
task_count work = length work.ready + length work.out

-- the same tasks are ready and out
pub record SameTasks (old new : Work) : Type 0 where
  pub ready : new.ready ≡ old.ready
  pub out : new.out ≡ old.out

-- the task that a worker of this kind gets: the first ready one of its kind, or else the first ready one
abbrev pub task_for : Kind → List Task → Option Task
task_for kind ready = option_or (find (is_of kind) ready) (slice_get ready 0)

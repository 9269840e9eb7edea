-- Which tasks are ready. Own rules.
use Rattle.std.specs.Prelude.{◌≡◌, ◌&&◌, if◌then◌else◌, Bool, List, None, Option, Some, false, filter_map, not, slice_get, true, ℕ}
use Rattle.std.specs.List.{range_with_len}
use Rattle.std.specs.Option.{option_or}
use Rattle.history_entry.specs.declared.entry.Entry.{Entry}
use Rattle.script_model.specs.ScriptData.{ScriptData, starts}
use Rattle.history_rules.specs.Frames.{navigations_made}
use Rattle.history_rules.specs.Processes.{started}
use Rattle.history_rules.specs.Requests.{requests_made}
use Rattle.service_rule.specs.Services.{ServiceRule}
use Rattle.history_steps.specs.MayFollow.{MayFollow}
use Rattle.history_steps.specs.Run.{Legal}
use Rattle.work_queue.specs.Work.{is_out}
use Rattle.work_queue.specs.declared.task.BrowserJob.TheVariants as jobs
use Rattle.work_queue.specs.declared.task.Kind.{Kind}
use Rattle.work_queue.specs.declared.task.Kind.TheVariants as kinds
use Rattle.work_queue.specs.declared.task.TaskKey.{TaskKey}
use Rattle.work_queue.specs.declared.task.TaskKey.TheVariants as keys
use Rattle.browser_tasks.specs.Objects.{IsOfKey, has_next}
use Rattle.browser_tasks.specs.declared.ready.Family.{Family}
use Rattle.browser_tasks.specs.declared.ready.Family.TheVariants.{Acts, Commits, Exits, Loads, Navs, Opens, Requests, Warms}

-- an entry of the task's object may follow the history, and the task is not out
pub record IsReady (rule : ServiceRule) (s : ScriptData) (h : List Entry) (out : List TaskKey) (key : TaskKey) : Type 0 where
  pub entry : Entry
  pub is_of : IsOfKey s h key entry
  pub follows : MayFollow rule s h entry
  pub free : is_out key out ≡ false

-- workers of this kind ask for the task
abbrev pub is_of_kind : Kind → TaskKey → Bool
is_of_kind kinds.Browser (keys.Browser job) = true
is_of_kind kinds.Renderer (keys.Act d) = true
is_of_kind kinds.Loader (keys.Load r) = true
is_of_kind _ _ = false

-- no task of this kind is ready
pub record NoneReadyOf (rule : ServiceRule) (s : ScriptData) (h : List Entry) (out : List TaskKey) (kind : Kind) : Type 0 where
  pub none : (key : TaskKey) → is_of_kind kind key ≡ true → IsReady rule s h out key → ⊥

-- no task is ready
pub record NoneReady (rule : ServiceRule) (s : ScriptData) (h : List Entry) (out : List TaskKey) : Type 0 where
  pub none : (key : TaskKey) → IsReady rule s h out key → ⊥

-- the task is ready, and of the asked kind if one of that kind is
pub record IsChosen (rule : ServiceRule) (s : ScriptData) (h : List Entry) (out : List TaskKey) (kind : Kind) (key : TaskKey) : Type 0 where
  pub ready : IsReady rule s h out key
  pub asked : is_of_kind kind key ≡ false → NoneReadyOf rule s h out kind

-- a ready task for a worker of this kind, and none exactly where none is ready
abbrev pub Chooses : ServiceRule → ScriptData → List Entry → List TaskKey → Kind → Option TaskKey → Type 0
Chooses rule s h out kind None = NoneReady rule s h out
Chooses rule s h out kind (Some key) = IsChosen rule s h out kind key

-- the same at a legal history, whatever its services' rule is
abbrev pub ChoosesWell : ScriptData → List Entry → List TaskKey → Kind → Option TaskKey → Type 0
ChoosesWell s h out kind found = (rule : ServiceRule) → Legal rule s h → Chooses rule s h out kind found

-- ---- How one is looked for

-- the task with a number of a family
abbrev pub key_in : Family → ℕ → TaskKey
key_in Opens k = keys.Browser (jobs.Open k)
key_in Warms k = keys.Browser jobs.Warm
key_in Navs n = keys.Browser (jobs.Nav n)
key_in Commits n = keys.Browser (jobs.Commit n)
key_in Requests r = keys.Browser (jobs.Request r)
key_in Exits p = keys.Browser (jobs.Exit p)
key_in Acts d = keys.Act d
key_in Loads r = keys.Load r

-- how many objects a family has
abbrev pub family_size : ScriptData → List Entry → Family → ℕ
family_size s h Opens = starts s
family_size s h Warms = 1
family_size s h Navs = navigations_made s h
family_size s h Commits = navigations_made s h
family_size s h Requests = requests_made h
family_size s h Exits = started h
family_size s h Acts = navigations_made s h
family_size s h Loads = requests_made h

-- the task is ready
unfoldable pub is_ready : ScriptData → List Entry → List TaskKey → TaskKey → Bool
is_ready s h out key = not (is_out key out) && has_next s h key

-- the task with this number of a family, if it is ready
abbrev pub ready_in : ScriptData → List Entry → List TaskKey → Family → ℕ → Option TaskKey
ready_in s h out family n = if is_ready s h out (key_in family n) then Some (key_in family n) else None

-- the first ready task of a family
unfoldable pub first_in : ScriptData → List Entry → List TaskKey → Family → Option TaskKey
first_in s h out family = slice_get (filter_map (ready_in s h out family) (range_with_len 0 (family_size s h family))) 0

-- the first ready job
unfoldable pub first_job : ScriptData → List Entry → List TaskKey → Option TaskKey
first_job s h out = option_or (first_in s h out Opens) (option_or (first_in s h out Warms) (option_or (first_in s h out Navs)
    (option_or (first_in s h out Commits) (option_or (first_in s h out Requests) (first_in s h out Exits)))))

-- the first ready task for workers of this kind
abbrev pub first_of_kind : ScriptData → List Entry → List TaskKey → Kind → Option TaskKey
first_of_kind s h out kinds.Browser = first_job s h out
first_of_kind s h out kinds.Renderer = first_in s h out Acts
first_of_kind s h out kinds.Loader = first_in s h out Loads

-- the first ready task for a worker of this kind, or else the first of any kind
unfoldable pub first_ready : ScriptData → List Entry → List TaskKey → Kind → Option TaskKey
first_ready s h out kind = option_or (first_of_kind s h out kind) (option_or (first_job s h out)
    (option_or (first_in s h out Acts) (first_in s h out Loads)))

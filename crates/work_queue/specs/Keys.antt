-- Of which object a task is, and which workers ask for it.
use Rattle.std.specs.Prelude.{◌==◌, Bool, false, true}
use Rattle.work_queue.specs.declared.task.BrowserJob.{BrowserJob}
use Rattle.work_queue.specs.declared.task.BrowserJob.TheVariants.{Commit, Exit, Nav, Open, Request, Warm}
use Rattle.work_queue.specs.declared.task.Kind.{Kind}
use Rattle.work_queue.specs.declared.task.Kind.TheVariants.{Browser as BrowserKind, Loader, Renderer}
use Rattle.work_queue.specs.declared.task.Task.{Task}
use Rattle.work_queue.specs.declared.task.Task.TheVariants.{Act, Browser, Load}
use Rattle.work_queue.specs.declared.task.TaskKey.{TaskKey}
use Rattle.work_queue.specs.declared.task.TaskKey.TheVariants.{Act as ActKey, Browser as BrowserKey, Load as LoadKey}

-- a job of the browser, the document of an act, the request of a load
abbrev pub key_of : Task → TaskKey
key_of (Browser job) = BrowserKey job
key_of (Act act) = ActKey act.sight.document
key_of (Load load) = LoadKey load.request

-- workers of this kind ask for the task
abbrev pub is_of : Kind → Task → Bool
is_of BrowserKind (Browser job) = true
is_of Renderer (Act act) = true
is_of Loader (Load load) = true
is_of _ _ = false

abbrev pub same_job : BrowserJob → BrowserJob → Bool
same_job (Open a) (Open b) = a == b
same_job Warm Warm = true
same_job (Nav a) (Nav b) = a == b
same_job (Commit a) (Commit b) = a == b
same_job (Request a) (Request b) = a == b
same_job (Exit a) (Exit b) = a == b
same_job _ _ = false

abbrev pub same_key : TaskKey → TaskKey → Bool
same_key (BrowserKey a) (BrowserKey b) = same_job a b
same_key (ActKey a) (ActKey b) = a == b
same_key (LoadKey a) (LoadKey b) = a == b
same_key _ _ = false

-- What a task holds: facts of the history at which it was made. Own rules.
use Rattle.std.specs.Prelude.{◌≡◌, List, Some, is_some, option_and_then, true, ⊤, ℕ}
use Rattle.cors_check.specs.Chains.{IsWebChain}
use Rattle.history_entry.specs.declared.entry.Entry.{Entry}
use Rattle.script_model.specs.ScriptData.{ScriptData}
use Rattle.history_rules.specs.Documents.{actions_done, process_of}
use Rattle.history_rules.specs.Requests.{is_read_chain, request_chain, request_document, request_mode, request_origin}
use Rattle.history_rules.specs.Sights.{sight_of}
use Rattle.service_rule.specs.Services.{ServiceRule}
use Rattle.history_steps.specs.Run.{Legal}
use Rattle.work_queue.specs.declared.task.ActTask.{ActTask}
use Rattle.work_queue.specs.declared.task.LoadTask.{LoadTask}
use Rattle.work_queue.specs.declared.task.TaskKey.{TaskKey}
use Rattle.work_queue.specs.declared.task.TaskKey.TheVariants as keys
use Rattle.work_queue.specs.declared.task.Task.{Task}
use Rattle.work_queue.specs.declared.task.Task.TheVariants.{Act, Browser, Load}

-- what the document sees, and the number of its next action
pub record HoldsAct (s : ScriptData) (h : List Entry) (act : ActTask) : Type 0 where
  pub sight : sight_of s h act.sight.document ≡ Some act.sight
  pub action : actions_done h act.sight.document ≡ act.action

-- the process of the document that asked, its origin, the URLs of the request so far, which are of class Web, and its mode
pub record HoldsLoad (h : List Entry) (load : LoadTask) : Type 0 where
  pub process : option_and_then (process_of h) (request_document h load.request) ≡ Some load.process
  pub origin : request_origin h load.request ≡ Some load.origin
  pub chain : request_chain h load.request ≡ load.chain
  pub web : IsWebChain load.chain
  pub mode : request_mode h load.request ≡ load.mode

-- the history is legal under some rule of services
pub record IsLegal (s : ScriptData) (h : List Entry) : Type 0 where
  pub rule : ServiceRule
  pub legal : Legal rule s h

-- the request's document has a process and an origin, and its URLs name themselves
pub record CanLoad (h : List Entry) (r : ℕ) : Type 0 where
  pub process : is_some (option_and_then (process_of h) (request_document h r)) ≡ true
  pub origin : is_some (request_origin h r) ≡ true
  pub chain : is_read_chain (request_chain h r) ≡ true

-- the facts of a task are there
abbrev pub CanHold : ScriptData → List Entry → TaskKey → Type 0
CanHold s h (keys.Browser job) = ⊤
CanHold s h (keys.Act d) = is_some (sight_of s h d) ≡ true
CanHold s h (keys.Load r) = CanLoad h r

-- a job names its object alone
abbrev pub HoldsFacts : ScriptData → List Entry → Task → Type 0
HoldsFacts s h (Browser job) = ⊤
HoldsFacts s h (Act act) = HoldsAct s h act
HoldsFacts s h (Load load) = HoldsLoad h load

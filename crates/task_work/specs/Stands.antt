-- At which history a load stands: the one in which the request has got exactly what the load has handed out. Own rules.
use Rattle.std.specs.Prelude.{◌≡◌, ◌≤◌, List, Some, false, is_some, length, take, true, ℕ}
use Rattle.history_entry.specs.declared.entry.Entry.{Entry}
use Rattle.history_rules.specs.Redirects.{response}
use Rattle.history_rules.specs.Requests.{delivered, has_head, is_live_request, is_read_chain}
use Rattle.history_steps.specs.Run.{Legal}
use Rattle.loader.specs.Loads.{HasLoaded, IsWireOf}
use Rattle.loader.specs.Whole.{is_headed}
use Rattle.script_model.specs.Pieces.{pieces}
use Rattle.script_model.specs.ResourceData.{ResourceData}
use Rattle.script_model.specs.ScriptData.{ScriptData}
use Rattle.service_rule.specs.Services.{ServiceRule}
use Rattle.browser_tasks.specs.Objects.{is_taken_at_once}
use Rattle.browser_tasks.specs.TaskData.{HoldsLoad}
use Rattle.task_work.specs.Claimed.{case_of}
use Rattle.task_work.specs.declared.load.TaskLoad.{TaskLoad}

-- the script of a load
abbrev pub script_of : TaskLoad → ScriptData
script_of load = load.script.now

-- the response that it loads: that of the last URL of its request
abbrev pub response_of : TaskLoad → ResourceData
response_of load = response (script_of load) load.task.chain

-- The load stands at the history: its request is live there, with the facts that the load holds, has its head where the load has told
-- it, and has got as many pieces as the load has handed out. Those, and what is left of its wire, are the pieces of the response.
pub record StandsAt (rule : ServiceRule) (h : List Entry) (load : TaskLoad) : Type 0 where
  pub legal : Legal rule (script_of load) h
  pub live : is_live_request (script_of load) h load.task.request ≡ true
  pub holds : HoldsLoad h load.task
  pub read : is_read_chain load.task.chain ≡ true
  pub by_load : is_taken_at_once (script_of load) h load.task.request ≡ false
  pub out : List (List ℕ)
  pub count : delivered h load.task.request ≡ length out
  pub headed : is_headed load.load.progress ≡ has_head h load.task.request
  pub loaded : HasLoaded load.load.progress (case_of (script_of load) load.task) out
  pub wire : IsWireOf load.load.progress out (Some load.wire.left) load.wire.fails (pieces (response_of load))
  pub fails : load.wire.fails ≡ is_some (response_of load).fail_after

-- the load stands at some beginning of the history
pub record StandsWithin (rule : ServiceRule) (h : List Entry) (load : TaskLoad) : Type 0 where
  pub place : ℕ
  pub within : place ≤ length h
  pub at : StandsAt rule (take place h) load

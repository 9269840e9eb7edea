-- What a core stands for, and what it keeps. Own rules.
use Rattle.std.specs.Prelude.{◌≡◌, List, ℕ}
use Rattle.page_origin.specs.declared.origin.TupleOrigin.{TupleOrigin}
use Rattle.history_entry.specs.declared.entry.Entry.{Entry}
use Rattle.history_rules.specs.Services.{accepted_requests}
use Rattle.history_steps.specs.Run.{Legal}
use Rattle.message_filter.specs.Asking.{Kept}
use Rattle.script_model.specs.ScriptData.{ScriptData}
use Rattle.service_rule.specs.Services.{ServiceRule}
use Rattle.work_queue.specs.declared.task.TaskKey.{TaskKey}

-- a script with a history of it, and the tasks that were handed out and have not ended, in the order of their claims
pub record CoreData : Type 0 where
  pub script : ScriptData
  pub entries : List Entry
  pub out : List TaskKey

-- the services keep of each origin exactly what the history accepted of it
abbrev pub KeepAllAccepted : Kept → List Entry → Type 0
KeepAllAccepted kept h = (name : List ℕ) (tuple : TupleOrigin) → kept name tuple ≡ accepted_requests h name tuple

-- the history is legal, and the services keep what it accepted
pub record IsInStep (rule : ServiceRule) (kept : Kept) (s : ScriptData) (h : List Entry) : Type 0 where
  pub is_legal : Legal rule s h
  pub keeps : KeepAllAccepted kept h

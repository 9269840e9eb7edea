-- A task that was ready, and holds the facts of its history, is one of the history.
use Rattle.std.proofs.Common.{ap, sym, ◌∙◌}
use Rattle.std.specs.Prelude.{List}
use Rattle.std.specs.List.{AllByRecursion}
use Rattle.entry_reading.specs.Entries.{IsEntry}
use Rattle.history_entry.specs.declared.entry.Entry.{Entry}
use Rattle.history_rules.specs.Requests.{is_read_chain}
use Rattle.history_steps.specs.MayFollow.{MayFollow}
use Rattle.history_steps.specs.Run.{Legal}
use Rattle.kept_entries.proofs.NamedChains.{chain_read}
use Rattle.kept_entries.specs.KeptScripts.{IsKeptScript}
use Rattle.script_model.specs.ScriptData.{ScriptData}
use Rattle.service_rule.specs.Services.{ServiceRule}
use Rattle.work_queue.specs.Keys.{key_of}
use Rattle.work_queue.specs.declared.task.Task.{Task}
use Rattle.work_queue.specs.declared.task.Task.TheVariants.{Act, Browser, Load}
use Rattle.work_queue.specs.declared.task.TaskKey.{TaskKey}
use Rattle.browser_tasks.proofs.Below.{delivery_below}
use Rattle.browser_tasks.specs.Objects.{IsOfKey}
use Rattle.browser_tasks.specs.Readiness.{IsReady}
use Rattle.browser_tasks.specs.TaskData.{HoldsFacts}
use Rattle.task_work.specs.Claimed.{IsReadTask, IsTaskOf}

module _ (s : ScriptData) (h : List Entry) (script : IsKeptScript s) (kept : AllByRecursion IsEntry h) (rule : ServiceRule) (legal : Legal rule s h) where
  read_by : (task : Task) (e : Entry) → HoldsFacts s h task → IsOfKey s h (key_of task) e → MayFollow rule s h e → IsReadTask task
  read_by (Load load) e holds is may =
      ap is_read_chain (sym holds.chain) ∙ chain_read rule s script h legal kept load.request (delivery_below rule s h legal load.request e is.0 may)
  read_by (Act act) e holds is may = tt
  read_by (Browser job) e holds is may = tt

pub task_is_of : (s : ScriptData) (h : List Entry) (task : Task) → IsKeptScript s → AllByRecursion IsEntry h → (rule : ServiceRule) (out : List TaskKey) → Legal rule s h
    → HoldsFacts s h task → IsReady rule s h out (key_of task) → IsTaskOf rule s h task
task_is_of s h task script kept rule out legal holds ready = record {
  legal = legal;
  holds = holds;
  read = read_by s h script kept rule legal task ready.entry holds ready.is_of ready.follows;
  entry = ready.entry;
  is_of = ready.is_of;
  follows = ready.follows;
}

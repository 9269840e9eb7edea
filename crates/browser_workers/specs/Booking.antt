-- What the calls of a core tell the table. Own rules.
use Rattle.std.specs.Prelude.{◌≡◌, List, None, Option, ⊤, ℕ}
use Rattle.history_entry.specs.declared.entry.Entry.{Entry}
use Rattle.script_model.specs.ScriptData.{ScriptData}
use Rattle.service_rule.specs.Services.{ServiceRule}
use Rattle.history_steps.specs.Run.{Legal}
use Rattle.policy_table.specs.declared.standing.Standing.{Standing}
use Rattle.process_standings.specs.Changing.{LastChanges}
use Rattle.work_queue.specs.Keys.{key_of}
use Rattle.work_queue.specs.declared.task.TaskKey.{TaskKey}
use Rattle.work_queue.specs.declared.tasks.Claim.{Claim}
use Rattle.work_queue.specs.declared.tasks.Claim.TheVariants.{None as NoTask, Task as OneTask}
use Rattle.browser_tasks.specs.Readiness.{IsReady}
use Rattle.browser_tasks.specs.TaskData.{HoldsFacts}
use Rattle.browser_core.specs.declared.applying.Applied.{Applied}
use Rattle.browser_core.specs.declared.applying.Applied.TheVariants.{Entry as Added, Stale}
use Rattle.task_work.specs.Claimed.{IsTaskOf}

-- the task that was handed out, if it was ready at the legal history and holds its facts, is one of it
abbrev pub IsKnown : ScriptData → List Entry → Claim → Type 0
IsKnown s h (OneTask task) = (rule : ServiceRule) (out : List TaskKey) → Legal rule s h → HoldsFacts s h task → IsReady rule s h out (key_of task) → IsTaskOf rule s h task
IsKnown s h (NoTask count) = ⊤

-- the change is that of the entry that was added, or none
abbrev pub IsChangeOf : List Entry → Applied → Option (ℕ × Standing) → Type 0
IsChangeOf h (Added place) change = LastChanges h change
IsChangeOf h (Stale place) change = change ≡ None

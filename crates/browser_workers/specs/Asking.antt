-- What workers ask of the core under the turn, and what they are told. Own rules.
use Rattle.std.specs.Prelude.{◌≡◌, List, ⊤}
use Rattle.history_entry.specs.declared.entry.Entry.{Entry}
use Rattle.script_model.specs.ScriptData.{ScriptData}
use Rattle.service_rule.specs.Services.{ServiceRule}
use Rattle.history_steps.specs.Run.{Finished, Legal}
use Rattle.policy_table.specs.Histories.{StartsWith}
use Rattle.history_rules.specs.Actions.{act_in}
use Rattle.work_queue.specs.declared.task.ActTask.{ActTask}
use Rattle.work_queue.specs.declared.tasks.Claim.{Claim}
use Rattle.work_queue.specs.declared.tasks.Claim.TheVariants.{None as NoTask, Task as OneTask}
use Rattle.browser_tasks.specs.Outcomes.{IsOutcome}
use Rattle.browser_tasks.specs.declared.outcome.ActDone.{ActDone}
use Rattle.browser_tasks.specs.declared.outcome.Outcome.{Outcome}
use Rattle.browser_tasks.specs.declared.outcome.Outcome.TheVariants as outcomes
use Rattle.browser_core.specs.Applying.{Extends}
use Rattle.browser_core.specs.declared.applying.Applied.{Applied}
use Rattle.task_work.specs.Claimed.{IsTaskOf}
use Rattle.browser_workers.specs.declared.asking.Ask.{Ask}
use Rattle.browser_workers.specs.declared.asking.Ask.TheVariants as asks
use Rattle.browser_workers.specs.declared.asking.Told.{Told}
use Rattle.browser_workers.specs.declared.asking.Told.TheVariants as tells

-- a worker that asks for a task at a history gets one of it, or none; and none while none is out only where the history is finished
abbrev pub Claims : ServiceRule → ScriptData → List Entry → Claim → Type 0
Claims rule s h (OneTask task) = IsTaskOf rule s h task
Claims rule s h (NoTask count) = count ≡ 0 → Finished rule s h

-- an outcome is brought back to a legal history, and leaves a legal one, with the entry that it adds or as it was
pub record BringsBack (rule : ServiceRule) (s : ScriptData) (outcome : Outcome) (before after : List Entry) (applied : Applied) : Type 0 where
  pub legal_before : Legal rule s before
  pub extends : Extends rule s outcome before after applied
  pub legal_after : Legal rule s after

-- what a call of the core does: the history before it, what is asked, what is told, and the history after it
abbrev pub Does : ServiceRule → ScriptData → List Entry → Ask → Told → List Entry → Type 0
Does rule s before (asks.Claim kind) (tells.Claim claim) after = (after ≡ before) × Claims rule s before claim
Does rule s before (asks.Apply outcome) (tells.Applied applied) after = BringsBack rule s outcome before after applied
Does rule s before _ _ after = ⊥

-- an outcome may be brought back to this history, if it is legal. That of a core always is, but a worker that has only looked at a row
-- does not know it of the history that it has seen then
abbrev pub MayBring : ServiceRule → ScriptData → List Entry → Outcome → Type 0
MayBring rule s h outcome = Legal rule s h → IsOutcome rule s h outcome

-- what may be asked at a history: a task always, and an outcome is brought back where it may be
abbrev pub MayAsk : ServiceRule → ScriptData → List Entry → Ask → Type 0
MayAsk rule s h (asks.Claim kind) = ⊤
MayAsk rule s h (asks.Apply outcome) = MayBring rule s h outcome

-- a worker that had seen so much was told this: it was asked at a history that begins with all of that
pub record IsTold (rule : ServiceRule) (s : ScriptData) (seen : List Entry) (ask : Ask) (told : Told) (after : List Entry) : Type 0 where
  pub found : List Entry
  pub begins : StartsWith found seen
  pub does : Does rule s found ask told after

-- a worker that had seen so much brought an outcome back, to a history that begins with all of that
pub record IsBrought (rule : ServiceRule) (s : ScriptData) (outcome : Outcome) (seen after : List Entry) (applied : Applied) : Type 0 where
  pub found : List Entry
  pub begins : StartsWith found seen
  pub brings : BringsBack rule s outcome found after applied

-- what the next action of a document came to was brought back
pub record BringsAct (rule : ServiceRule) (s : ScriptData) (task : ActTask) (seen after : List Entry) (applied : Applied) : Type 0 where
  pub done : ActDone
  pub document : done.document ≡ task.sight.document
  pub action : done.action ≡ task.action
  pub act : done.act ≡ act_in s task.sight task.action
  pub brought : IsBrought rule s (outcomes.Act done) seen after applied

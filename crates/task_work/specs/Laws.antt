-- What workers may bring back to each history that goes on from that of their claim. Own rules.
use Rattle.std.specs.Prelude.{◌≡◌, ◌++◌, ◌∷◌, [], List, take, true, ℕ}
use Rattle.history_entry.specs.declared.entry.Entry.{Entry}
use Rattle.history_steps.specs.MayFollow.{MayFollow}
use Rattle.history_steps.specs.Run.{Legal}
use Rattle.policy_table.specs.declared.standing.Standing.TheVariants.{Dead}
use Rattle.process_standings.specs.Standings.{table_standing}
use Rattle.read_verdict.specs.declared.step.Step.{Step}
use Rattle.read_verdict.specs.declared.step.Step.TheVariants.{Gone, Held}
use Rattle.script_model.specs.ScriptData.{ScriptData}
use Rattle.service_rule.specs.Services.{ServiceRule}
use Rattle.work_queue.specs.declared.task.BrowserJob.{BrowserJob}
use Rattle.work_queue.specs.declared.task.Task.TheVariants.{Browser}
use Rattle.browser_tasks.specs.Outcomes.{CanFollow, CannotFollow, IsEntryOf, IsOutcome, IsVouched, has_more}
use Rattle.browser_tasks.specs.declared.outcome.Outcome.{Outcome}
use Rattle.browser_tasks.specs.declared.outcome.Outcome.TheVariants as outcomes
use Rattle.task_work.specs.Claimed.{IsTaskOf}
use Rattle.task_work.specs.Stands.{StandsWithin, script_of}
use Rattle.task_work.specs.Steps.{StepsFrom, TellsResponse, outcome_of}
use Rattle.task_work.specs.declared.load.TaskLoad.{TaskLoad}

-- what may follow the history and is vouched for there may be brought back to it
abbrev pub NowBringsBack : ServiceRule → ScriptData → Type 0
NowBringsBack rule s = (h : List Entry) (outcome : Outcome) → CanFollow rule s h outcome → IsVouched h outcome → IsOutcome rule s h outcome

-- what may be brought back to a history may be to each that goes on from it
abbrev pub OutcomesStay : ServiceRule → ScriptData → Type 0
OutcomesStay rule s = (h more : List Entry) (outcome : Outcome) → IsOutcome rule s h outcome → IsOutcome rule s (h ++ more) outcome

-- a claimed job is done as soon as it is brought back
abbrev pub JobsCanFollow : ServiceRule → ScriptData → Type 0
JobsCanFollow rule s = (h : List Entry) (job : BrowserJob) → IsTaskOf rule s h (Browser job) → CanFollow rule s h (outcomes.Browser job)

-- a load that stands within a history stands within each that goes on from it
abbrev pub StandingStays : ServiceRule → Type 0
StandingStays rule = (h more : List Entry) (load : TaskLoad) → StandsWithin rule h load → StandsWithin rule (h ++ more) load

-- a step that tells the response may be brought back to each history within which the load stood
abbrev pub StepsComeBack : ServiceRule → Type 0
StepsComeBack rule = (h : List Entry) (old new : TaskLoad) (step : Step) → StepsFrom old new step → StandsWithin rule h old → TellsResponse step
    → IsOutcome rule (script_of old) h (outcome_of old step)

-- where a piece is held, the load stands within each history within which it stood
abbrev pub HeldStays : ServiceRule → Type 0
HeldStays rule = (h : List Entry) (old new : TaskLoad) (step : Step) → StepsFrom old new step → StandsWithin rule h old → step ≡ Held → StandsWithin rule h new

-- where the entry of a head or a piece is added, the load stands within the history with it
abbrev pub LoadsGoOn : ServiceRule → Type 0
LoadsGoOn rule = (h : List Entry) (old new : TaskLoad) (step : Step) (e : Entry) → StepsFrom old new step → StandsWithin rule h old → Legal rule (script_of old) h
    → IsEntryOf (script_of old) h (outcome_of old step) e → MayFollow rule (script_of old) h e → has_more step ≡ true → StandsWithin rule (h ++ e ∷ []) new

-- the process of the load shows dead in some beginning of a legal history, and the load stands within it
pub record IsHostGone (rule : ServiceRule) (h : List Entry) (load : TaskLoad) : Type 0 where
  pub legal : Legal rule (script_of load) h
  pub stands : StandsWithin rule h load
  pub place : ℕ
  pub dead : table_standing (take place h) load.task.process ≡ Dead

-- then that the process is gone may be brought back
abbrev pub GoneComesBack : ServiceRule → Type 0
GoneComesBack rule = (h : List Entry) (load : TaskLoad) → IsHostGone rule h load → IsOutcome rule (script_of load) h (outcome_of load Gone)

-- and it comes too late for every entry of the request
abbrev pub GoneIsTooLate : ServiceRule → Type 0
GoneIsTooLate rule = (h : List Entry) (load : TaskLoad) → IsHostGone rule h load → CannotFollow rule (script_of load) h (outcome_of load Gone)

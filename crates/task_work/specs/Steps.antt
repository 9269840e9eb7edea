-- What the step of a load means for the histories at which the load stands. Own rules.
use Rattle.std.specs.Prelude.{◌≡◌, ◌++◌, ◌∷◌, [], List, true, ⊤}
use Rattle.history_entry.specs.declared.entry.Entry.{Entry}
use Rattle.history_steps.specs.MayFollow.{MayFollow}
use Rattle.history_steps.specs.Run.{Legal}
use Rattle.read_verdict.specs.declared.step.Step.{Step}
use Rattle.read_verdict.specs.declared.step.Step.TheVariants.{Blocked, Fault, Gone, Head, Held, Piece, Whole}
use Rattle.service_rule.specs.Services.{ServiceRule}
use Rattle.browser_tasks.specs.Outcomes.{CanFollow, IsCleared, IsEntryOf, has_more}
use Rattle.browser_tasks.specs.declared.outcome.Outcome.{Outcome}
use Rattle.browser_tasks.specs.declared.outcome.Outcome.TheVariants as outcomes
use Rattle.task_work.specs.Stands.{StandsAt, script_of}
use Rattle.task_work.specs.declared.load.TaskLoad.{TaskLoad}

-- the outcome of a step of a load
abbrev pub outcome_of : TaskLoad → Step → Outcome
outcome_of load step = outcomes.Load (record { request = load.task.request; step = step })

-- the step tells what the response comes to, and is brought back for it. A held piece is not brought back, and a step that found the
-- process dead is for another reason
abbrev pub TellsResponse : Step → Type 0
TellsResponse (Head cleared) = ⊤
TellsResponse (Piece part) = ⊤
TellsResponse Whole = ⊤
TellsResponse (Blocked rule) = ⊤
TellsResponse Fault = ⊤
TellsResponse Held = ⊥
TellsResponse Gone = ⊥

-- a step from one state of a load to the next, at a history where it stood
pub record StepsAt (rule : ServiceRule) (h : List Entry) (old new : TaskLoad) (step : Step) : Type 0 where
  -- what the response comes to may follow, and the leave of a head or a piece is for the request
  pub could : TellsResponse step → CanFollow rule (script_of old) h (outcome_of old step)
  pub cleared : IsCleared old.task.request step
  -- where a piece is held, the load stands where it stood
  pub held : step ≡ Held → StandsAt rule h new
  -- where an entry of a head or a piece was added later, the load stands behind it
  pub goes_on : (later : List Entry) (e : Entry) → Legal rule (script_of old) (h ++ later) → IsEntryOf (script_of old) (h ++ later) (outcome_of old step) e
      → MayFollow rule (script_of old) (h ++ later) e → has_more step ≡ true → StandsAt rule ((h ++ later) ++ e ∷ []) new

-- the same at each history where it stood
abbrev pub StepsFrom : TaskLoad → TaskLoad → Step → Type 0
StepsFrom old new step = (rule : ServiceRule) (h : List Entry) → StandsAt rule h old → StepsAt rule h old new step

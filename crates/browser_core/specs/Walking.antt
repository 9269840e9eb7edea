-- The walk back to where an outcome could last be added. Own rules.
use Rattle.std.specs.Prelude.{◌≡◌, ◌≤◌, ◌∷◌, [], Bool, List, None, Option, Some, false, length, take, true, ℕ}
use Rattle.history_entry.specs.declared.entry.Entry.{Entry}
use Rattle.script_model.specs.ScriptData.{ScriptData}
use Rattle.service_rule.specs.Services.{ServiceRule}
use Rattle.history_steps.specs.MayFollow.{MayFollow}
use Rattle.history_steps.specs.Run.{Legal}
use Rattle.browser_tasks.specs.Outcomes.{CanFollow, CannotFollow, IsEntryOf, IsOutcome}
use Rattle.browser_tasks.specs.declared.outcome.Outcome.{Outcome}
use Rattle.browser_core.specs.Applying.{IsLast}
use Rattle.browser_core.specs.declared.facts.settling.Settled.{Settled}
use Rattle.browser_core.specs.declared.facts.settling.Settled.TheVariants.{Entry as Adds, Stale}

-- whether one of the outcome's entries may follow a legal history, whatever its services' rule is
abbrev pub TellsFollowing : ScriptData → List Entry → Outcome → Bool → Type 0
TellsFollowing s h outcome true = (rule : ServiceRule) → Legal rule s h → CanFollow rule s h outcome
TellsFollowing s h outcome false = (rule : ServiceRule) → Legal rule s h → CannotFollow rule s h outcome

-- the outcome may be brought back under some rule of services
pub record WasPossible (s : ScriptData) (h : List Entry) (outcome : Outcome) : Type 0 where
  pub rule : ServiceRule
  pub legal : Legal rule s h
  pub outcome_is : IsOutcome rule s h outcome

-- none of its entries may follow from this place on
pub record NoneFrom (s : ScriptData) (h : List Entry) (outcome : Outcome) (place : ℕ) : Type 0 where
  pub none : (rule : ServiceRule) → Legal rule s h → (j : ℕ) → place ≤ j → j ≤ length h → CannotFollow rule s (take j h) outcome

-- the last place, whatever the services' rule is under which the history is legal; none where there is none
abbrev pub IsLastWell : ScriptData → List Entry → Outcome → Option ℕ → Type 0
IsLastWell s h outcome None = NoneFrom s h outcome 0
IsLastWell s h outcome (Some place) = (rule : ServiceRule) → Legal rule s h → IsLast rule s h outcome place

-- what becomes of an outcome
abbrev pub Settles : ServiceRule → ScriptData → List Entry → Outcome → Settled → Type 0
Settles rule s h outcome (Adds entry) = IsEntryOf s h outcome entry × MayFollow rule s h entry
Settles rule s h outcome (Stale place) = CannotFollow rule s h outcome × IsLast rule s h outcome place

-- the entry that it adds
abbrev pub added_by : Settled → List Entry
added_by (Adds entry) = entry ∷ []
added_by (Stale place) = []

-- one of the outcome's entries could follow this beginning of a history
pub record CouldFollow (rule : ServiceRule) (s : ScriptData) (h : List Entry) (outcome : Outcome) : Type 0 where
  pub place : ℕ
  pub within : place ≤ length h
  pub could : CanFollow rule s (take place h) outcome

-- whether one could follow some beginning of a legal history, whatever its services' rule is
abbrev pub TellsPossible : ScriptData → List Entry → Outcome → Bool → Type 0
TellsPossible s h outcome true = (rule : ServiceRule) → Legal rule s h → CouldFollow rule s h outcome
TellsPossible s h outcome false = (rule : ServiceRule) → Legal rule s h → CouldFollow rule s h outcome → ⊥

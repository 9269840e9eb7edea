-- What a core does with an outcome. Own rules.
use Rattle.std.specs.Prelude.{◌≡◌, ◌+◌, ◌<◌, ◌++◌, ◌∷◌, [], if◌then◌else◌, Bool, List, Option, false, length, take, true, ℕ}
use Rattle.history_entry.specs.declared.entry.Entry.{Entry}
use Rattle.script_model.specs.ScriptData.{ScriptData}
use Rattle.service_rule.specs.Services.{ServiceRule}
use Rattle.history_steps.specs.MayFollow.{MayFollow}
use Rattle.history_steps.specs.Run.{Legal}
use Rattle.work_queue.specs.Work.{without_key}
use Rattle.work_queue.specs.declared.task.TaskKey.{TaskKey}
use Rattle.browser_tasks.specs.Outcomes.{CanFollow, CannotFollow, IsEntryOf, IsOutcome, goes_on, outcome_key}
use Rattle.browser_tasks.specs.declared.outcome.Outcome.{Outcome}
use Rattle.browser_core.specs.Cores.{CoreData}
use Rattle.browser_core.specs.declared.applying.Applied.{Applied}
use Rattle.browser_core.specs.declared.applying.Applied.TheVariants.{Entry as Added, Stale}

-- the outcome's entry that may follow stands at the end, at this place
pub record AddsEntry (rule : ServiceRule) (s : ScriptData) (outcome : Outcome) (old new : List Entry) (place : ℕ) : Type 0 where
  pub entry : Entry
  pub is_of : IsEntryOf s old outcome entry
  pub follows : MayFollow rule s old entry
  pub added : new ≡ old ++ entry ∷ []
  pub at_end : place ≡ length old

-- one of the outcome's entries could follow so many entries of the history, and none one entry more
pub record IsLast (rule : ServiceRule) (s : ScriptData) (h : List Entry) (outcome : Outcome) (place : ℕ) : Type 0 where
  pub below : place < length h
  pub could : CanFollow rule s (take place h) outcome
  pub no_more : CannotFollow rule s (take (place + 1) h) outcome

-- the outcome came too late: none of its entries may follow
pub record IsTooLate (rule : ServiceRule) (s : ScriptData) (outcome : Outcome) (old new : List Entry) (place : ℕ) : Type 0 where
  pub none : CannotFollow rule s old outcome
  pub last : IsLast rule s old outcome place
  pub same : new ≡ old

-- what becomes of the history
abbrev pub Extends : ServiceRule → ScriptData → Outcome → List Entry → List Entry → Applied → Type 0
Extends rule s outcome old new (Added place) = AddsEntry rule s outcome old new place
Extends rule s outcome old new (Stale place) = IsTooLate rule s outcome old new place

-- the task goes on: its entry was added, and it has more behind it
abbrev pub stays_out : Outcome → Applied → Bool
stays_out outcome (Added place) = goes_on outcome
stays_out outcome (Stale place) = false

-- what becomes of the tasks out: the outcome's ends, unless it goes on
abbrev pub out_after : Outcome → Applied → List TaskKey → List TaskKey
out_after outcome applied out = if stays_out outcome applied then out else without_key (outcome_key outcome) out

-- a core applies an outcome
pub record Applies (rule : ServiceRule) (outcome : Outcome) (old new : CoreData) (applied : Applied) : Type 0 where
  pub extends : Extends rule old.script outcome old.entries new.entries applied
  pub out : new.out ≡ out_after outcome applied old.out

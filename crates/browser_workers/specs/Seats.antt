-- What is known of the workers' places before, while and after they work. Own rules.
use Rattle.std.specs.Prelude.{◌≡◌, ◌∷◌, [], List, true, ⊤, ℕ}
use Rattle.std.specs.List.{AllByRecursion, sum_by}
use Rattle.atomic_table.specs.Seated.{TableId}
use Rattle.history_entry.specs.declared.entry.Entry.{Entry}
use Rattle.script_model.specs.ScriptData.{ScriptData}
use Rattle.service_rule.specs.Services.{ServiceRule}
use Rattle.history_steps.specs.Run.{Finished}
use Rattle.policy_table.specs.Histories.{StartsWith}
use Rattle.browser_workers.specs.Passes.{HasGoneOn}
use Rattle.browser_workers.specs.declared.seats.Seat.{Seat}

-- a place at this desk; where its worker says that it saw the finished history, it has seen one
pub record IsSeat (rule : ServiceRule) (s : ScriptData) (desk : TableId) (seat : Seat) : Type 0 where
  pub at_desk : seat.pass.desk ≡ desk
  pub over : seat.finished ≡ true → Finished rule s seat.pass.seen

-- all are places at this desk
abbrev pub AreSeats : ServiceRule → ScriptData → TableId → List Seat → Type 0
AreSeats rule s desk seats = AllByRecursion (IsSeat rule s desk) seats

-- each pass has seen this history, or a longer one
abbrev pub HaveSeen : List Entry → List Seat → Type 0
HaveSeen h seats = AllByRecursion (λ seat. StartsWith seat.pass.seen h) seats

-- the units of weight of all places
abbrev pub weights : List Seat → ℕ
weights seats = sum_by (λ seat. seat.pass.weight) seats

-- a worker has worked in its place: its pass has gone on, and where it says that it saw the finished history, it has seen one
pub record HasWorked (rule : ServiceRule) (s : ScriptData) (before after : Seat) : Type 0 where
  pub on : HasGoneOn before.pass after.pass
  pub over : after.finished ≡ true → Finished rule s after.pass.seen

-- each worker has
abbrev pub HaveWorked : ServiceRule → ScriptData → List Seat → List Seat → Type 0
HaveWorked rule s [] [] = ⊤
HaveWorked rule s (before ∷ befores) (after ∷ afters) = HasWorked rule s before after × HaveWorked rule s befores afters
HaveWorked rule s _ _ = ⊥

-- the history begins with a finished one
pub record BeginsFinished (rule : ServiceRule) (s : ScriptData) (h : List Entry) : Type 0 where
  pub front : List Entry
  pub finished : Finished rule s front
  pub begins : StartsWith h front

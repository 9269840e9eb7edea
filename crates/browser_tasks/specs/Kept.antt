-- What is kept of something where it fits. Own rules.
use Rattle.std.specs.Prelude.{◌≡◌, IfSome, MatchOption, None, Option, Some, ℕ}
use Rattle.history_entry.specs.declared.body.Message.{Message}
use Rattle.history_entry.specs.declared.entry.Entry.{Entry}
use Rattle.history_entry.specs.declared.entry.Entry.TheVariants.{Local}
use Rattle.history_rules.specs.declared.act.Act.{Act}
use Rattle.history.specs.declared.documents.Saying.{Saying}
use Rattle.browser_tasks.specs.Outcomes.{Fits}

-- it is kept where it fits, and nothing is kept exactly where it does not
abbrev pub Keeps : {A : Type 0} → (A → Type 0) → Option A → Option A → Type 0
Keeps Is given None = IfSome given (λ x. Is x → ⊥)
Keeps Is given (Some kept) = (given ≡ Some kept) × Is kept

-- this message is said, as the action with this number
abbrev pub IsSayingOf : ℕ → Message → Saying → Type 0
IsSayingOf k message saying = (saying.place.action ≡ k) × (saying.message ≡ message)

-- this act is done, as the action with this number
abbrev pub IsLocalOf : ℕ → Act → Entry → Type 0
IsLocalOf k act (Local p d number what) = (number ≡ k) × Fits act what
IsLocalOf k act _ = ⊥

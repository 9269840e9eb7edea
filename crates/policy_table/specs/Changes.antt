-- What one call of the object does to the standings of the processes.
use Rattle.std.specs.Prelude.{◌≡◌, ◌≢◌, ◌⊎◌, ℕ, ◌<◌, List, Option, Some, None}
use Rattle.policy_table.specs.declared.standing.Standing.{Standing}
use Rattle.policy_table.specs.Histories.{AddsOne}
use Rattle.policy_table.specs.declared.standing.TheConstants.{PROCESSES}

-- the standings before and after, and the change that is told: none differs, or the one process differs that is told with its standing now
abbrev pub Changes : (ℕ → Standing) → (ℕ → Standing) → Option (ℕ × Standing) → Type 0
Changes before after None = (process : ℕ) → after process ≡ before process
Changes before after (Some change) =
    (change.0 < PROCESSES) × (after change.0 ≡ change.1) × (before change.0 ≢ change.1)
    × ((process : ℕ) → process ≢ change.0 → after process ≡ before process)

-- one call took the history from `before` to `after`, with one entry or none, and told this change
pub record OneCall {E : Type 0} (standing : List E → ℕ → Standing) (before after : List E) (change : Option (ℕ × Standing)) : Type 0 where
  pub entries : (after ≡ before) ⊎ AddsOne before after
  pub changes : Changes (standing before) (standing after) change

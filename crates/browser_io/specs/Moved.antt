-- Which bytes several calls moved, and whether an object tells its bytes. Bytes that are told are `Some`.
use Rattle.std.specs.Prelude.{◌≡◌, ℕ, ◌≤◌, List, length, Option}
use Rattle.std.specs.Option.{is_some}
use Rattle.std.specs.Io.KnownBytes.{Consumes}

-- the object tells its bytes afterwards exactly where it told them before
abbrev pub KeepsTelling : Option (List ℕ) → Option (List ℕ) → Type 0
KeepsTelling old new = is_some new ≡ is_some old

-- what was taken is some list of at most n bytes
abbrev pub TakesAtMost : Option (List ℕ) → Option (List ℕ) → ℕ → Type 0
TakesAtMost old new n = (taken : List ℕ) × Consumes old new taken × (length taken ≤ n)

-- what was taken is some list of exactly n bytes
abbrev pub TakesExactly : Option (List ℕ) → Option (List ℕ) → ℕ → Type 0
TakesExactly old new n = (taken : List ℕ) × Consumes old new taken × (length taken ≡ n)

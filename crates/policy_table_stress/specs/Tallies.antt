-- The object of the stress run: a count of calls.
use Rattle.std.specs.Prelude.{ℕ, zero, suc, ◌/◌, ◌==◌, List, [], ◌∷◌, ◌++◌, length, if◌then◌else◌}
use Rattle.policy_table.specs.declared.standing.Standing.{Standing}
use Rattle.policy_table.specs.declared.standing.Standing.TheVariants.{Absent, Locked}

-- the history of so many calls: the number of each
abbrev pub calls_before : ℕ → List ℕ
calls_before zero = []
calls_before (suc n) = calls_before n ++ n ∷ []

-- process 0 is locked to the site of half the number of calls, and no other was started
abbrev pub standing_after : List ℕ → ℕ → Standing
standing_after calls process = if process == 0 then Locked (length calls / 2) else Absent

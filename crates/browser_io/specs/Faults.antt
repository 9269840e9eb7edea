-- Counts of faults: when a failure may be answered. Each source and sink counts its faults in 64 bits, from 0.
use Rattle.std.specs.Prelude.{ℕ, ◌+◌, ◌-◌, ◌^◌, ◌≤◌, min, Result, Ok, Err}

-- one more in a count of 64 bits, which stands still at its end
abbrev pub counted_on : ℕ → ℕ
counted_on count = min (count + 1) (2 ^ 64 - 1)

-- the count went up, or stands at its end
abbrev pub Rose : ℕ → ℕ → Type 0
Rose before now = counted_on before ≤ now

-- the count after a call: one more where the call failed, and else the same
abbrev pub count_after : {T E : Type 0} → ℕ → Result T E → ℕ
count_after count (Ok _) = count
count_after count (Err _) = counted_on count

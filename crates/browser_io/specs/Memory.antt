-- What contracts see of a source and a sink in memory. Calls are numbered from 0; their number stands still at 2 ^ 64 - 1, as a count of faults does.
use Rattle.std.specs.Prelude.{ℕ, List, []}

-- a source: the bytes still to come, the most that a call hands over, the calls that fail, the number of the next call, the count of faults
pub record MemorySource : Type 0 where
  pub left : List ℕ
  pub step : ℕ
  pub fails : List ℕ
  pub calls : ℕ
  pub faults : ℕ

-- a sink: the bytes written, the most bytes it holds, the most that a call takes, the calls that fail, the number of the next call, the count of faults
pub record MemorySink : Type 0 where
  pub written : List ℕ
  pub room : ℕ
  pub step : ℕ
  pub fails : List ℕ
  pub calls : ℕ
  pub faults : ℕ

-- a source of these bytes before its first call
abbrev pub fresh_source : List ℕ → ℕ → List ℕ → MemorySource
fresh_source bytes step fails = record { left = bytes; step = step; fails = fails; calls = 0; faults = 0 }

-- an empty sink before its first call
abbrev pub fresh_sink : ℕ → ℕ → List ℕ → MemorySink
fresh_sink room step fails = record { written = []; room = room; step = step; fails = fails; calls = 0; faults = 0 }

-- a source that never fails: the bytes still to come, the most that a call hands over
pub record FaultlessSource : Type 0 where
  pub left : List ℕ
  pub step : ℕ

-- a sink that never fails and keeps nothing: the most that a call takes
pub record FaultlessSink : Type 0 where
  pub step : ℕ

-- What contracts see of a source over a reader and of a sink over a writer: `std`'s word on what the reader has left and the writer holds, where that is known, and the count of faults.
use Rattle.std.specs.Prelude.{ℕ, List, Option}

-- a source over a reader: the bytes that the reader will give, the count of faults
pub record ReaderSource : Type 0 where
  pub remaining : Option (List ℕ)
  pub faults : ℕ

-- a sink over a writer: the bytes that the writer holds, the count of faults
pub record WriterSink : Type 0 where
  pub contents : Option (List ℕ)
  pub faults : ℕ

use Rattle.std.proofs.Common.{rules, inl, inr, refl, arith}
use Rattle.browser_io.proofs.memory_sink.MemSinkSink.write.Goals as goal
use Rattle.browser_io.proofs.memory_sink.MemSinkSink.write.Goals.{then-count-eq0-via-then-count-eq0, then-count-eq0-via-else-count-eq0+then-contains}

-- a write fails where its number is in the plan, or where the room is full
pub returns-then-count-eq0-clause-fails : goal.returns-then-count-eq0-clause-fails
returns-then-count-eq0-clause-fails c = (
  λ _. elim c.then-count-eq0.branch [
    | then-count-eq0-via-then-count-eq0 w ↦ rw (← c.self.view_is) (inr (omega arith))
    | then-count-eq0-via-else-count-eq0+then-contains w ↦ inl (search (rules, w.if-contains))
  ],
  λ _. refl,
)

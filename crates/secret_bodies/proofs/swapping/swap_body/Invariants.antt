use Rattle.secret_bodies.proofs.SwapSoFar.{IsSwapSoFar}
use Rattle.secret_bodies.proofs.swapping.swap_body.Given as goal

abbrev pub invariant-loop-entry : goal.invariant-loop-entry
invariant-loop-entry l = IsSwapSoFar l.script l.key l.body l.history l.entry-index l.last l.swapped

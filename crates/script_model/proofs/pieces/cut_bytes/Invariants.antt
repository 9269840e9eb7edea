use Rattle.script_model.proofs.CutSoFar.{IsCutSoFar}
use Rattle.script_model.proofs.pieces.cut_bytes.Given as goal

abbrev pub invariant-loop-cut : goal.invariant-loop-cut
invariant-loop-cut l = IsCutSoFar l.cuts l.bytes l.cut-index l.from l.rest l.pieces.items

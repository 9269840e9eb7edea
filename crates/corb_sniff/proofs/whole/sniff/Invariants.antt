use Rattle.std.proofs.Common.{take}
use Rattle.std.specs.List.{flat_map}
use Rattle.corb_sniff.specs.HasRead.{HasRead}
use Rattle.corb_sniff.proofs.whole.sniff.Given as goal

abbrev pub invariant-loop-piece : goal.invariant-loop-piece
invariant-loop-piece l = HasRead l.sniffer l.fn.kind (flat_map (λ piece. piece.items) (take l.piece-index l.pieces))

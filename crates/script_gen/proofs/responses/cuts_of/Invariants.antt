use Rattle.std.proofs.Common.{◌≡◌, ◌*◌, ◌-◌, map}
use Rattle.std.specs.List.{range_with_len}
use Rattle.script_gen.proofs.responses.cuts_of.Given as goal

abbrev pub invariant-loop-piece : goal.invariant-loop-piece
invariant-loop-piece l = l.cuts.items ≡ map (λ piece. 256 * piece) (range_with_len 1 (l.piece - 1))

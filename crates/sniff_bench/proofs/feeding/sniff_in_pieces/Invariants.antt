use Rattle.std.proofs.Common.{◌-◌, length, take}
use Rattle.corb_sniff.specs.HasRead.{HasRead}
use Rattle.sniff_bench.proofs.feeding.sniff_in_pieces.Given as goal

abbrev pub invariant-loop-start : goal.invariant-loop-start
invariant-loop-start l = HasRead l.sniffer l.fn.kind (take l.start l.body)

abbrev pub decreases-loop-start : goal.decreases-loop-start
decreases-loop-start l = length l.body - l.start

use Rattle.std.proofs.Common.{◌≡◌, ◌++◌, map, take}
use Rattle.script_gen.specs.Generated.{add_frame}
use Rattle.script_gen.proofs.actions.put_frames.Given as goal

abbrev pub invariant-loop-draw : goal.invariant-loop-draw
invariant-loop-draw l = l.actions.items ≡ l.initial.actions.items ++ map add_frame (take l.draw-index l.draws)

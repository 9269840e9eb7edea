use Rattle.std.proofs.Common.{◌≡◌, ◌++◌, map, take}
use Rattle.script_gen.specs.Generated.{fetch}
use Rattle.script_gen.proofs.actions.put_fetches.Given as goal

abbrev pub invariant-loop-draw : goal.invariant-loop-draw
invariant-loop-draw l = l.actions.items ≡ l.initial.actions.items ++ map fetch (take l.draw-index l.draws)

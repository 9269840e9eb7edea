use Rattle.std.proofs.Common.{◌≡◌, map, drop}
use Rattle.script_input.specs.Objects.{is_one_of}
use Rattle.script_input.proofs.object.is_one_of.Given as goal

abbrev pub invariant-loop-k : goal.invariant-loop-k
invariant-loop-k l = is_one_of (map (λ k. k.now) (drop l.k-index l.keys)) l.key ≡ is_one_of (map (λ k. k.now) l.keys) l.key

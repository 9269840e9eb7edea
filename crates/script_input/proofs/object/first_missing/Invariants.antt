use Rattle.std.proofs.Common.{◌≡◌, map, drop}
use Rattle.serde_json.specs.View.{view}
use Rattle.script_input.specs.Objects.{first_missing}
use Rattle.script_input.proofs.object.first_missing.Given as goal

abbrev pub invariant-loop-key : goal.invariant-loop-key
invariant-loop-key l = first_missing (map (λ k. k.now) (drop l.key-index l.required)) (view l.value) ≡ first_missing (map (λ k. k.now) l.required) (view l.value)

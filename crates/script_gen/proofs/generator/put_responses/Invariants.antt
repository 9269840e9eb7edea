use Rattle.std.proofs.Common.{◌≡◌, ◌++◌, map}
use Rattle.std.specs.List.{range_with_len}
use Rattle.script_gen.specs.Generated.{response_resource}
use Rattle.script_gen.proofs.generator.put_responses.Given as goal

abbrev pub invariant-loop-number : goal.invariant-loop-number
invariant-loop-number l = l.resources.items ≡ l.initial.resources.items ++ map response_resource (range_with_len 0 l.number)

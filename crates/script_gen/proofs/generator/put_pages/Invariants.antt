use Rattle.std.proofs.Common.{◌≡◌, ◌++◌, map}
use Rattle.std.specs.List.{range_with_len}
use Rattle.script_gen.specs.Generated.{page_resource}
use Rattle.script_gen.proofs.generator.put_pages.Given as goal

abbrev pub invariant-loop-number : goal.invariant-loop-number
invariant-loop-number l = l.resources.items ≡ l.initial.resources.items ++ map (page_resource l.draws) (range_with_len 0 l.number)

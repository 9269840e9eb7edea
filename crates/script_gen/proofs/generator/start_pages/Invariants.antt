use Rattle.std.proofs.Common.{◌≡◌, map}
use Rattle.std.specs.List.{range_with_len}
use Rattle.script_gen.specs.Generated.{page_url}
use Rattle.script_gen.proofs.generator.start_pages.Given as goal

abbrev pub invariant-loop-number : goal.invariant-loop-number
invariant-loop-number l = l.urls.items ≡ map page_url (range_with_len 0 l.number)

use Rattle.std.proofs.Common.{◌≡◌, ◌++◌}
use Rattle.std.specs.List.{filter_map, range_with_len}
use Rattle.history.specs.Kinds.{next_by}
use Rattle.history.proofs.listing.push_listed.Given as goal

abbrev pub invariant-loop-number : goal.invariant-loop-number
invariant-loop-number l = l.found.items ≡ l.initial.found.items ++ filter_map (next_by l.facts.script l.facts.entries l.listed) (range_with_len 0 l.number)

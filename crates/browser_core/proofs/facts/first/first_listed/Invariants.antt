use Rattle.std.proofs.Common.{◌≡◌, ◌-◌}
use Rattle.std.specs.Prelude.{filter_map, slice_get}
use Rattle.std.specs.List.{range_with_len}
use Rattle.history.specs.Kinds.{next_by}
use Rattle.browser_core.proofs.facts.first.first_listed.Given as goal

abbrev pub invariant-loop-number : goal.invariant-loop-number
invariant-loop-number l =
    slice_get (filter_map (next_by l.facts.script l.facts.entries l.listed) (range_with_len l.number (l.count - l.number))) 0
    ≡ slice_get (filter_map (next_by l.facts.script l.facts.entries l.listed) (range_with_len 0 l.count)) 0

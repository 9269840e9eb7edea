use Rattle.std.proofs.Common.{◌≡◌, ◌-◌}
use Rattle.std.specs.Prelude.{filter_map, slice_get}
use Rattle.std.specs.List.{range_with_len}
use Rattle.browser_tasks.proofs.ready.first_below.Given as goal
use Rattle.browser_tasks.specs.Readiness.{ready_in}

abbrev pub invariant-loop-number : goal.invariant-loop-number
invariant-loop-number l =
    slice_get (filter_map (ready_in l.facts.script l.facts.entries l.tasks.out l.family) (range_with_len l.number (l.count - l.number))) 0
    ≡ slice_get (filter_map (ready_in l.facts.script l.facts.entries l.tasks.out l.family) (range_with_len 0 l.count)) 0

use Rattle.std.proofs.Common.{◌≡◌, false, take}
use Rattle.std.specs.List.{list_any, range_with_len}
use Rattle.browser_core.proofs.facts.possible.was_host_dead.Given as goal
use Rattle.browser_core.specs.Hosts.{host_dead}

abbrev pub invariant-loop-count : goal.invariant-loop-count
invariant-loop-count l = list_any (λ i. host_dead (take i l.entries) l.request) (range_with_len 0 l.count) ≡ false

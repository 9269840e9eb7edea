use Rattle.std.proofs.Common.{◌≡◌, ◌++◌}
use Rattle.std.specs.List.{flat_map, range_with_len}
use Rattle.history_steps.specs.Nexts.{process_commits}
use Rattle.history.proofs.listing.push_commits.Given as goal

abbrev pub invariant-loop-process : goal.invariant-loop-process
invariant-loop-process l = l.found.items ≡ l.initial.found.items ++ flat_map (process_commits l.facts.script l.facts.entries) (range_with_len 0 l.process)

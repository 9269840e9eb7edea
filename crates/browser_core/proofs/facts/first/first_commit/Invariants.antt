use Rattle.std.proofs.Common.{◌≡◌, ◌-◌}
use Rattle.std.specs.Prelude.{slice_get}
use Rattle.std.specs.List.{flat_map, range_with_len}
use Rattle.history_rules.specs.Processes.{started}
use Rattle.history_steps.specs.Nexts.{commit_nexts, process_commits}
use Rattle.browser_core.proofs.facts.first.first_commit.Given as goal

abbrev pub invariant-loop-process : goal.invariant-loop-process
invariant-loop-process l =
    slice_get (flat_map (process_commits l.facts.script l.facts.entries) (range_with_len l.process (started l.facts.entries - l.process))) 0
    ≡ slice_get (commit_nexts l.facts.script l.facts.entries) 0

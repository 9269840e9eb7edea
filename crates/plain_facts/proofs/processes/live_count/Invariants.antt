use Rattle.std.proofs.Common.{◌≡◌, ◌≤◌}
use Rattle.std.specs.Prelude.{count_by}
use Rattle.std.specs.List.{range_with_len}
use Rattle.history_rules.specs.Processes.{is_live}
use Rattle.plain_facts.proofs.processes.live_count.Given as goal

abbrev pub invariant-loop-process : goal.invariant-loop-process
invariant-loop-process l = record {
  live : l.count ≡ count_by (is_live l.entries) (range_with_len 0 l.process);
  few : l.count ≤ l.process;
}

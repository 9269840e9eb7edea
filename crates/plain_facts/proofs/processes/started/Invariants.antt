use Rattle.std.proofs.Common.{◌≡◌, ◌≤◌, ◌^◌, take}
use Rattle.std.specs.Prelude.{fold, max, filter_map}
use Rattle.history_rules.specs.Processes.{started_by}
use Rattle.plain_facts.proofs.processes.started.Given as goal

abbrev pub invariant-loop-entry : goal.invariant-loop-entry
invariant-loop-entry l = record {
  greatest : l.most ≡ fold max 0 (filter_map started_by (take l.entry-index l.entries));
  few : l.most ≤ 2 ^ 32;
}

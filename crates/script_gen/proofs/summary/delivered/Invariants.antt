use Rattle.std.proofs.Common.{◌≡◌, take}
use Rattle.std.specs.Prelude.{sum_by}
use Rattle.script_gen.specs.Summaries.{delivered_by}
use Rattle.script_gen.proofs.summary.delivered.Given as goal

abbrev pub invariant-loop-entry : goal.invariant-loop-entry
invariant-loop-entry l = l.sum ≡ sum_by delivered_by (take l.entry-index l.entries)

use Rattle.std.proofs.Common.{ap, ◌∙◌, ◌^◌}
use Rattle.std.specs.Prelude.{fold, max}
use Rattle.std.specs.Option.{option_to_list}
use Rattle.history_rules.specs.Processes.{started_by}
use Rattle.plain_facts.proofs.Counts.{greatest_step, greatest_few}
use Rattle.plain_facts.proofs.processes.started.Goals as goal

pub loop-entry-preserved : goal.loop-entry-preserved
loop-entry-preserved c = record {
  greatest =
      c.greatest-most.ensures
      ∙ ap (λ o. fold max c.loop-entry.most (option_to_list o)) c.started_by.ensures.number
      ∙ greatest_step started_by c.args.entries.now c.loop-entry.entry-index c.entry-item.result c.loop-entry.most c.loop-entry-test.true c.entry-item.is c.loop-entry.invariant.greatest;
  few = rw c.greatest-most.ensures (greatest_few c.loop-entry.most (2 ^ 32) c.started_by.result c.loop-entry.invariant.few c.started_by.ensures.few);
}

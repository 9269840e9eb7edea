use Rattle.std.proofs.Common.{ap, ◌∙◌}
use Rattle.std.specs.Option.{option_or}
use Rattle.history_rules.specs.Documents.{process_in}
use Rattle.plain_facts.proofs.LastMatch.{last_match_step}
use Rattle.plain_facts.proofs.documents.process_of.Goals as goal

pub loop-entry-preserved : goal.loop-entry-preserved
loop-entry-preserved c =
    c.or-last.ensures ∙ ap (λ o. option_or o c.loop-entry.last) c.process_in.ensures
    ∙ last_match_step (process_in c.args.document) c.args.entries.now c.loop-entry.entry-index c.entry-item.result c.loop-entry.last c.loop-entry-test.true c.entry-item.is c.loop-entry.invariant

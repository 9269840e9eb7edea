use Rattle.std.proofs.Common.{ap, ◌∙◌}
use Rattle.std.specs.Option.{option_or}
use Rattle.history_rules.specs.Requests.{head_in}
use Rattle.plain_facts.proofs.LastMatch.{last_match_step}
use Rattle.request_facts.proofs.requests.head_of.Goals as goal

pub loop-entry-preserved : goal.loop-entry-preserved
loop-entry-preserved c =
    c.or-last.ensures ∙ ap (λ o. option_or o c.loop-entry.last) c.head_in.ensures
    ∙ last_match_step (head_in c.args.request) c.args.entries.now c.loop-entry.entry-index c.entry-item.result c.loop-entry.last c.loop-entry-test.true c.entry-item.is c.loop-entry.invariant

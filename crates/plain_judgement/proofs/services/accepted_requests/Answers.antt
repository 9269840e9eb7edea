use Rattle.std.proofs.Common.{ap, ◌∙◌, ◌++◌}
use Rattle.std.specs.Option.{option_to_list}
use Rattle.history_rules.specs.Services.{asked_in}
use Rattle.plain_judgement.proofs.Accepted.{found_step}
use Rattle.plain_judgement.proofs.services.accepted_requests.Goals as goal

pub loop-entry-preserved : goal.loop-entry-preserved
loop-entry-preserved c =
    c.in_ok-push_asked.ensures ∙ ap (λ o. c.loop-entry.accepted.items ++ option_to_list o) c.asked_in.ensures
    ∙ found_step (asked_in c.args.name.now c.args.tuple.now) c.args.entries.now c.loop-entry.entry-index c.entry-item.result c.loop-entry.accepted.items c.loop-entry-test.true c.entry-item.is c.loop-entry.invariant

use Rattle.std.proofs.Common.{ap, ◌∙◌, ◌++◌, []}
use Rattle.std.specs.Option.{option_map_or, option_to_list}
use Rattle.history_rules.specs.Requests.{fetched_url, hop_of_request, request_maker}
use Rattle.request_facts.proofs.Steps.{follow_step}
use Rattle.request_facts.proofs.requests.request_chain.Goals as goal

pub loop-entry-preserved : goal.loop-entry-preserved
loop-entry-preserved c =
    c.in_ok-follow.ensures ∙ ap (λ o. c.loop-entry.chain ++ option_to_list o) c.hop_of_request.ensures
    ∙ follow_step (hop_of_request c.args.request) (option_map_or (λ m. fetched_url m.body) (request_maker c.args.entries.now c.args.request) []) c.args.entries.now c.loop-entry.entry-index c.entry-item.result c.loop-entry.chain c.loop-entry-test.true c.entry-item.is c.loop-entry.invariant

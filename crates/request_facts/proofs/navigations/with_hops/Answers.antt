use Rattle.std.proofs.Common.{ap, ◌∙◌, ◌++◌, []}
use Rattle.std.specs.Prelude.{unwrap_or}
use Rattle.std.specs.Option.{option_to_list}
use Rattle.history_rules.specs.Navigations.{hop_of_navigation}
use Rattle.request_facts.proofs.Steps.{follow_step}
use Rattle.request_facts.proofs.navigations.with_hops.Goals as goal

pub loop-entry-preserved : goal.loop-entry-preserved
loop-entry-preserved c =
    c.in_ok-follow.ensures ∙ ap (λ o. c.loop-entry.chain ++ option_to_list o) c.hop_of_navigation.ensures
    ∙ follow_step (hop_of_navigation c.args.navigation) (unwrap_or c.args.first []) c.args.entries.now c.loop-entry.entry-index c.entry-item.result c.loop-entry.chain c.loop-entry-test.true c.entry-item.is c.loop-entry.invariant

use Rattle.std.proofs.Common.{ap, ◌∙◌}
use Rattle.std.specs.Option.{option_copied, option_or}
use Rattle.history_rules.specs.Navigations.{hop_of_navigation}
use Rattle.plain_facts.proofs.LastMatch.{copied_or, last_match_step}
use Rattle.request_facts.proofs.navigations.last_hop.Goals as goal

pub loop-entry-preserved : goal.loop-entry-preserved
loop-entry-preserved c =
    ap (λ o. option_copied o) c.or-last.ensures ∙ copied_or c.hop_of_navigation.result c.loop-entry.last
    ∙ ap (λ o. option_or o (option_copied c.loop-entry.last)) c.hop_of_navigation.ensures
    ∙ last_match_step (hop_of_navigation c.args.navigation) c.args.entries.now c.loop-entry.entry-index c.entry-item.result (option_copied c.loop-entry.last) c.loop-entry-test.true c.entry-item.is c.loop-entry.invariant

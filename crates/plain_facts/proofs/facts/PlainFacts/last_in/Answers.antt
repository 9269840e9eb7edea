use Rattle.std.proofs.Common.{ap, ◌∙◌}
use Rattle.std.specs.Option.{option_map, option_or}
use Rattle.history_rules.specs.Documents.{commit_at}
use Rattle.entry_facts.specs.Views.{commit_view}
use Rattle.plain_facts.proofs.LastMatch.{last_match_step, map_or}
use Rattle.plain_facts.proofs.facts.PlainFacts.last_in.Goals as goal

pub loop-entry-preserved : goal.loop-entry-preserved
loop-entry-preserved c =
    ap (λ o. option_map commit_view o) c.or-last.ensures ∙ map_or commit_view c.commit_at.result c.loop-entry.last
    ∙ ap (λ o. option_or o (option_map commit_view c.loop-entry.last)) c.commit_at.ensures
    ∙ last_match_step (commit_at c.args.self.now.script c.args.self.now.entries c.args.frame) c.entries-entries.result.now c.loop-entry.entry-index c.entry-item.result (option_map commit_view c.loop-entry.last) c.loop-entry-test.true c.entry-item.is c.loop-entry.invariant

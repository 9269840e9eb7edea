use Rattle.std.proofs.Common.{◌≡◌, ◌∙◌, arith}
use Rattle.history_rules.specs.Documents.{current_documents}
use Rattle.message_filter.proofs.Numbers.{all_current, one_further}
use Rattle.message_filter.proofs.asking.current_documents.Goals as goal

pub loop-index-preserved : goal.loop-index-preserved
loop-index-preserved g c =
    c.in_ok-push.ensures.items
    ∙ one_further (current_documents (g.F.Facts.script c.args.facts.now) (g.F.Facts.entries c.args.facts.now)) c.loop-index.numbers.items c.loop-index.index c.in-Some.document
    c.loop-index.invariant c.in-Some.ensures

pub returns : goal.returns
returns g c =
    let whole : c.loop-index.index ≡ c.navs_made-index-end.result = omega arith in
    all_current (g.F.Facts.script c.args.facts.now) (g.F.Facts.entries c.args.facts.now) c.loop-index.numbers.items c.loop-index.index c.loop-index.invariant (whole ∙ c.navs_made-index-end.ensures)

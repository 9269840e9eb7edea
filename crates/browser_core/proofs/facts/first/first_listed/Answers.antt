use Rattle.std.proofs.Common.{◌∙◌, sym}
use Rattle.history.specs.Kinds.{next_by}
use Rattle.request_facts.proofs.Posts.{passed}
use Rattle.browser_core.proofs.facts.first.first_listed.Goals as goal

pub loop-number-preserved : goal.loop-number-preserved
loop-number-preserved c =
    passed (next_by c.args.facts.now.script c.args.facts.now.entries c.args.listed) c.loop-number.number c.args.count 0 _ c.loop-number-test.true
    (sym c.in_ok-entry.ensures ∙ c.in_default.is) c.loop-number.invariant

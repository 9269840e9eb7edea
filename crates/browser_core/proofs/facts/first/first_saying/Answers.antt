use Rattle.std.proofs.Common.{◌∙◌, ◌<◌, subst, sym}
use Rattle.history_rules.specs.Frames.{navigations_made}
use Rattle.history.specs.Sayings.{saying_next}
use Rattle.request_facts.proofs.Posts.{passed}
use Rattle.browser_core.proofs.facts.first.first_saying.Goals as goal

pub loop-document-preserved : goal.loop-document-preserved
loop-document-preserved c =
    passed (saying_next c.args.facts.now.script c.args.facts.now.entries) c.loop-document.document (navigations_made c.args.facts.now.script c.args.facts.now.entries) 0 _
    (subst (λ n. c.loop-document.document < n) c.navigations_made-document-end.ensures c.loop-document-test.true)
    (sym c.in_ok-saying.ensures ∙ c.in_default.is) c.loop-document.invariant

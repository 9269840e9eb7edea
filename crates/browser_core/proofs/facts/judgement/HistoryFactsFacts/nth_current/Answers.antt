use Rattle.std.proofs.Common.{◌∙◌, arith, sym}
use Rattle.history_rules.specs.Documents.{is_current}
use Rattle.browser_core.proofs.Nth.{number_counted, number_failed}
use Rattle.browser_core.proofs.facts.judgement.HistoryFactsFacts.nth_current.Goals as goal
use Rattle.browser_core.proofs.facts.judgement.HistoryFactsFacts.nth_current.Goals.{then-is_current+else-left-eq0, else-is_current}

pub loop-document-preserved : goal.loop-document-preserved
loop-document-preserved c = elim c.if-is_current.branch [
  | then-is_current+else-left-eq0 w ↦ number_counted (is_current c.args.self.now.script c.args.self.now.entries) c.loop-document.document c.navs_made-document-end.result
      c.loop-document.left c.if-is_current.left _ c.loop-document-test.true (sym c.is_current.ensures ∙ w.if-is_current.true)
      (omega (arith, w.left-is, w.if-left-eq0.false)) c.loop-document.invariant
  | else-is_current w ↦ number_failed (is_current c.args.self.now.script c.args.self.now.entries) c.loop-document.document c.navs_made-document-end.result
      c.loop-document.left c.if-is_current.left _ c.loop-document-test.true (sym c.is_current.ensures ∙ w.if-is_current.false)
      w.left-is c.loop-document.invariant
]

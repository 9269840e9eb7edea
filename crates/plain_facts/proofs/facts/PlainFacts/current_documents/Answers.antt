use Rattle.std.proofs.Common.{ap, ◌∙◌, sym, [], ◌∷◌, ◌++◌}
use Rattle.history_rules.specs.Documents.{is_current}
use Rattle.plain_facts.proofs.Counts.{filter_passed, filter_failed}
use Rattle.plain_facts.proofs.facts.PlainFacts.current_documents.Goals as goal
use Rattle.plain_facts.proofs.facts.PlainFacts.current_documents.Goals.{then-is_current+in_ok-push, else-is_current}

pub loop-document-preserved : goal.loop-document-preserved
loop-document-preserved c =
    elim c.if-is_current.branch [
      | then-is_current+in_ok-push w ↦
          ap (λ v. v.items) w.current-is ∙ w.in_ok-push.ensures.items ∙ ap (λ xs. xs ++ c.loop-document.document ∷ []) c.loop-document.invariant
          ∙ sym (filter_passed (is_current c.args.self.now.script c.args.self.now.entries) c.loop-document.document (sym c.is_current.ensures ∙ w.if-is_current.true))
      | else-is_current w ↦
          ap (λ v. v.items) w.current-is ∙ c.loop-document.invariant
          ∙ sym (filter_failed (is_current c.args.self.now.script c.args.self.now.entries) c.loop-document.document (sym c.is_current.ensures ∙ w.if-is_current.false))
    ]

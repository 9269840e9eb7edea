use Rattle.std.proofs.Common.{◌≡◌, IfSome, None, Option, Some, sym, true, ℕ, List}
use Rattle.history_entry.specs.declared.entry.Entry.{Entry}
use Rattle.history_rules.specs.Documents.{document_in, is_current}
use Rattle.script_model.specs.ScriptData.{ScriptData}
use Rattle.message_filter.proofs.Made.{receiver_current}
use Rattle.message_filter.proofs.rows.receiver_in.Goals as goal

each_current : (s : ScriptData) (h : List Entry) (f : ℕ) (o : Option ℕ) → o ≡ document_in s h f → IfSome o (λ d. is_current s h d ≡ true)
each_current s h f None e = tt
each_current s h f (Some d) e = receiver_current s h f d (sym e)

pub returns-clause-current : goal.returns-clause-current
returns-clause-current g c = each_current (g.F.Facts.script c.args.facts.now) (g.F.Facts.entries c.args.facts.now) c.args.frame c.document_in.result c.document_in.ensures

use Rattle.std.proofs.Common.{◌≡◌, ◌-◌}
use Rattle.std.specs.Prelude.{filter, slice_get}
use Rattle.std.specs.List.{range_with_len}
use Rattle.history_rules.specs.Documents.{current_documents, is_current}
use Rattle.browser_core.proofs.facts.judgement.HistoryFactsFacts.nth_current.Given as goal

abbrev pub invariant-loop-document : goal.invariant-loop-document
invariant-loop-document l =
    slice_get (filter (is_current l.self.script l.self.entries) (range_with_len l.document (l.document-end - l.document))) l.left
    ≡ slice_get (current_documents l.self.script l.self.entries) l.fn.index

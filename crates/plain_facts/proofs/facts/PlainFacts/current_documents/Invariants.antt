use Rattle.std.proofs.Common.{◌≡◌}
use Rattle.std.specs.Prelude.{filter}
use Rattle.std.specs.List.{range_with_len}
use Rattle.history_rules.specs.Documents.{is_current}
use Rattle.plain_facts.proofs.facts.PlainFacts.current_documents.Given as goal

abbrev pub invariant-loop-document : goal.invariant-loop-document
invariant-loop-document l = l.current.items ≡ filter (is_current l.self.script l.self.entries) (range_with_len 0 l.document)

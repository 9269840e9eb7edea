use Rattle.std.proofs.Common.{◌≡◌, take}
use Rattle.history_rules.specs.Documents.{current_documents}
use Rattle.message_filter.proofs.asking.current_documents.Given as goal

abbrev pub invariant-loop-index : goal.invariant-loop-index
invariant-loop-index g l = l.numbers.items ≡ take l.index (current_documents (g.F.Facts.script l.facts) (g.F.Facts.entries l.facts))

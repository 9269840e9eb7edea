use Rattle.std.proofs.Common.{◌≡◌, take}
use Rattle.history_rules.specs.Entries.{last_match}
use Rattle.history_rules.specs.Documents.{process_in}
use Rattle.plain_facts.proofs.documents.process_of.Given as goal

abbrev pub invariant-loop-entry : goal.invariant-loop-entry
invariant-loop-entry l = l.last ≡ last_match (process_in l.document) (take l.entry-index l.entries)

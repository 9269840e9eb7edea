use Rattle.std.proofs.Common.{◌≡◌, take, count_by}
use Rattle.history_rules.specs.Entries.{is_done_by}
use Rattle.plain_facts.proofs.documents.actions_done.Given as goal

abbrev pub invariant-loop-entry : goal.invariant-loop-entry
invariant-loop-entry l = l.count ≡ count_by (is_done_by l.document) (take l.entry-index l.entries)

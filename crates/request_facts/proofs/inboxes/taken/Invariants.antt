use Rattle.std.proofs.Common.{◌≡◌, take, count_by}
use Rattle.history_rules.specs.Inboxes.{takes}
use Rattle.request_facts.proofs.inboxes.taken.Given as goal

abbrev pub invariant-loop-entry : goal.invariant-loop-entry
invariant-loop-entry l = l.count ≡ count_by (takes l.document) (take l.entry-index l.entries)

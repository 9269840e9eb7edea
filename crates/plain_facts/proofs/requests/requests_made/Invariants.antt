use Rattle.std.proofs.Common.{◌≡◌, take, count_by}
use Rattle.history_rules.specs.Entries.{makes_request}
use Rattle.plain_facts.proofs.requests.requests_made.Given as goal

abbrev pub invariant-loop-entry : goal.invariant-loop-entry
invariant-loop-entry l = l.count ≡ count_by makes_request (take l.entry-index l.entries)

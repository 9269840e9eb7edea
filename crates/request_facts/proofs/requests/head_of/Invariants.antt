use Rattle.std.proofs.Common.{◌≡◌, take}
use Rattle.history_rules.specs.Entries.{last_match}
use Rattle.history_rules.specs.Requests.{head_in}
use Rattle.request_facts.proofs.requests.head_of.Given as goal

abbrev pub invariant-loop-entry : goal.invariant-loop-entry
invariant-loop-entry l = l.last ≡ last_match (head_in l.request) (take l.entry-index l.entries)

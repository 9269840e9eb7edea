use Rattle.std.proofs.Common.{◌≡◌, take, count_by}
use Rattle.history_rules.specs.Requests.{is_piece_of}
use Rattle.request_facts.proofs.requests.delivered.Given as goal

abbrev pub invariant-loop-entry : goal.invariant-loop-entry
invariant-loop-entry l = l.count ≡ count_by (is_piece_of l.request) (take l.entry-index l.entries)

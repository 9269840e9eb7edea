use Rattle.std.proofs.Common.{◌≡◌, drop}
use Rattle.std.specs.Prelude.{filter, slice_get}
use Rattle.history_rules.specs.Entries.{makes_request}
use Rattle.request_facts.proofs.requests.request_maker.Given as goal

abbrev pub invariant-loop-entry : goal.invariant-loop-entry
invariant-loop-entry l = slice_get (filter makes_request (drop l.entry-index l.entries)) l.left ≡ slice_get (filter makes_request l.entries) l.fn.request

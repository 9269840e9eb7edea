use Rattle.std.proofs.Common.{◌≡◌, ◌++◌}
use Rattle.std.specs.List.{filter_map, range_with_len}
use Rattle.history_steps.specs.MayFollow.{said_next}
use Rattle.history.proofs.listing.push_messages.Given as goal

abbrev pub invariant-loop-document : goal.invariant-loop-document
invariant-loop-document g l = l.found.items ≡ l.initial.found.items ++ filter_map (said_next g.R.ServiceRule.rule l.facts.script l.facts.entries) (range_with_len 0 l.document)

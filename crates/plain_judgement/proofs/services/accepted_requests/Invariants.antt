use Rattle.std.proofs.Common.{◌≡◌, take}
use Rattle.std.specs.Prelude.{filter_map}
use Rattle.history_rules.specs.Services.{asked_in}
use Rattle.plain_judgement.proofs.services.accepted_requests.Given as goal

abbrev pub invariant-loop-entry : goal.invariant-loop-entry
invariant-loop-entry l = l.accepted.items ≡ filter_map (asked_in l.name l.tuple) (take l.entry-index l.entries)

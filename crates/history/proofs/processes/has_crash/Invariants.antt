use Rattle.std.proofs.Common.{◌≡◌, false}
use Rattle.std.specs.Prelude.{◌&&◌}
use Rattle.std.specs.List.{list_any, range_with_len}
use Rattle.history_rules.specs.Documents.{is_current_in}
use Rattle.history_rules.specs.Sights.{next_act}
use Rattle.history_steps.specs.MayFollow.{is_crash}
use Rattle.history.proofs.processes.has_crash.Given as goal

abbrev pub invariant-loop-document : goal.invariant-loop-document
invariant-loop-document l = list_any (λ d. is_current_in l.facts.script l.facts.entries l.process d && is_crash (next_act l.facts.script l.facts.entries d)) (range_with_len 0 l.document) ≡ false

use Rattle.std.proofs.Common.{◌≡◌, ◌-◌}
use Rattle.std.specs.Prelude.{filter_map, slice_get}
use Rattle.std.specs.List.{range_with_len}
use Rattle.history_rules.specs.Frames.{navigations_made}
use Rattle.history.specs.Sayings.{saying_next}
use Rattle.browser_core.specs.Candidates.{sayings}
use Rattle.browser_core.proofs.facts.first.first_saying.Given as goal

abbrev pub invariant-loop-document : goal.invariant-loop-document
invariant-loop-document l =
    slice_get (filter_map (saying_next l.facts.script l.facts.entries) (range_with_len l.document (navigations_made l.facts.script l.facts.entries - l.document))) 0
    ≡ slice_get (sayings l.facts.script l.facts.entries) 0

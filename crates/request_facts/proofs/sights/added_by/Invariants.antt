use Rattle.std.proofs.Common.{◌≡◌, false, ◌==◌}
use Rattle.std.specs.Prelude.{filter}
use Rattle.std.specs.List.{range_with_len}
use Rattle.std.specs.Option.{option_map_or}
use Rattle.history_rules.specs.Frames.{adder_of}
use Rattle.request_facts.proofs.sights.added_by.Given as goal

abbrev pub invariant-loop-frame : goal.invariant-loop-frame
invariant-loop-frame l = l.frames.items ≡ filter (λ f. option_map_or (λ adder. adder == l.document) (adder_of l.facts.script l.facts.entries f) false) (range_with_len 0 l.frame)

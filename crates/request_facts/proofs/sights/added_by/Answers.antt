use Rattle.std.proofs.Common.{◌∙◌, ◌∷◌, [], false, ◌==◌}
use Rattle.std.specs.Option.{option_map_or}
use Rattle.history_rules.specs.Frames.{adder_of}
use Rattle.request_facts.proofs.Steps.{filter_range_step}
use Rattle.request_facts.proofs.sights.added_by.Goals as goal

pub loop-frame-preserved : goal.loop-frame-preserved
loop-frame-preserved c =
    c.in_ok-push_added.ensures
    ∙ filter_range_step (λ f. option_map_or (λ adder. adder == c.args.document) (adder_of c.args.facts.now.script c.args.facts.now.entries f) false) c.loop-frame.frame c.loop-frame.frames.items c.loop-frame.invariant

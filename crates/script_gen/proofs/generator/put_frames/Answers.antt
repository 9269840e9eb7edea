use Rattle.script_gen.specs.Generated.{frame_resource}
use Rattle.script_gen.proofs.Ranges.{pushed}
use Rattle.script_gen.proofs.generator.put_frames.Goals as goal

pub loop-number-preserved : goal.loop-number-preserved
loop-number-preserved c = pushed _ _ _ (frame_resource c.args.draws.now) c.loop-number.number _ c.loop-number.invariant c.in_ok-frame.ensures c.in_ok-push.ensures.items

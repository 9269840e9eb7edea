use Rattle.script_gen.specs.Generated.{response_resource}
use Rattle.script_gen.proofs.Ranges.{pushed}
use Rattle.script_gen.proofs.generator.put_responses.Goals as goal

pub loop-number-preserved : goal.loop-number-preserved
loop-number-preserved c = pushed _ _ _ response_resource c.loop-number.number _ c.loop-number.invariant c.in_ok-response_of.ensures c.in_ok-push.ensures.items

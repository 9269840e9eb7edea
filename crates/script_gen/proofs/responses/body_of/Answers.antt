use Rattle.std.proofs.Common.{ap, arith, length}
use Rattle.script_gen.specs.Generated.{body_front}
use Rattle.script_gen.proofs.BodySteps.{one_more_letter}
use Rattle.script_gen.proofs.responses.body_of.Goals as goal

pub loop-place-preserved : goal.loop-place-preserved
loop-place-preserved c =
    one_more_letter (body_front c.args.response) _ _ c.loop-place.place _ (omega (arith, ap length c.body_front-front.ensures.front)) c.loop-place.invariant c.letter.ensures c.in_ok-push.ensures.items

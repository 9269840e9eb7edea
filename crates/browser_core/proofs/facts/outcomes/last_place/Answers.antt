use Rattle.std.proofs.Common.{◌-◌, arith, subst, take}
use Rattle.browser_core.proofs.Walks.{last_here, none_at_end, none_earlier}
use Rattle.browser_core.proofs.facts.outcomes.last_place.Goals as goal
use Rattle.browser_core.specs.Walking.{TellsFollowing}

pub loop-place-preserved : goal.loop-place-preserved
loop-place-preserved c = (
  omega (arith, c.loop-place.invariant.0),
  none_earlier c.args.script.now c.args.entries.now c.args.outcome.now c.loop-place.place (c.loop-place.place - 1) (omega (arith, c.loop-place-test.true))
      c.loop-place.invariant.1
      (subst (TellsFollowing c.args.script.now (take (c.loop-place.place - 1) c.args.entries.now) c.args.outcome.now) c.if-branch.false c.in_ok-may_follow.ensures),
)

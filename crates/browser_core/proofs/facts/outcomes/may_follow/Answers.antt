use Rattle.std.proofs.Common.{subst, sym}
use Rattle.browser_core.proofs.Walks.{tells}
use Rattle.browser_core.proofs.facts.outcomes.may_follow.Goals as goal
use Rattle.browser_core.specs.Walking.{TellsFollowing}

pub returns : goal.returns
returns c =
    subst (TellsFollowing c.args.script.now c.args.entries.now c.args.outcome.now) (sym c.is_there.ensures)
    (tells c.args.script.now c.args.entries.now c.args.outcome.now c.in_ok-found.found c.in_ok-found.ensures.answers)

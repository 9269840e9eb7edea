use Rattle.std.proofs.Common.{subst}
use Rattle.browser_core.proofs.Walks.{somewhere}
use Rattle.browser_core.proofs.facts.outcomes.stale_place.Goals as goal
use Rattle.browser_core.specs.Walking.{IsLastWell}

pub unreachable-requires : goal.unreachable-requires
unreachable-requires c =
    somewhere c.args.script.now c.args.entries.now c.args.outcome.now c.requires.possible
    (subst (IsLastWell c.args.script.now c.args.entries.now c.args.outcome.now) c.in-None.is c.in_ok-place.ensures)

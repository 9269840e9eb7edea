use Rattle.history.proofs.Ranges.{pushed_some}
use Rattle.history.specs.Kinds.{next_by}
use Rattle.history.proofs.listing.push_listed.Goals as goal

pub loop-number-preserved : goal.loop-number-preserved
loop-number-preserved c =
    pushed_some _ _ _ (next_by c.args.facts.now.script c.args.facts.now.entries c.args.listed) _ _ c.loop-number.invariant c.in_ok-next_by.ensures c.in_ok-push_some.ensures

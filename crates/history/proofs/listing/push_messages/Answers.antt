use Rattle.history.proofs.Ranges.{pushed_some}
use Rattle.history_steps.specs.MayFollow.{said_next}
use Rattle.history.proofs.listing.push_messages.Goals as goal

pub loop-document-preserved : goal.loop-document-preserved
loop-document-preserved g c =
    pushed_some _ _ _ (said_next g.R.ServiceRule.rule c.args.facts.now.script c.args.facts.now.entries) _ _ c.loop-document.invariant c.in_ok-said_next.ensures c.in_ok-push_some.ensures

use Rattle.history.proofs.Ranges.{pushed_all}
use Rattle.history_steps.specs.Nexts.{process_commits}
use Rattle.history.proofs.listing.push_commits.Goals as goal

pub loop-process-preserved : goal.loop-process-preserved
loop-process-preserved c =
    pushed_all _ _ _ (process_commits c.args.facts.now.script c.args.facts.now.entries) _ c.loop-process.invariant c.in_ok-push_commits_in.ensures

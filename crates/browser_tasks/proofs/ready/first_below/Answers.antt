use Rattle.std.proofs.Common.{◌∙◌, sym}
use Rattle.request_facts.proofs.Posts.{passed}
use Rattle.browser_tasks.proofs.ready.first_below.Goals as goal
use Rattle.browser_tasks.specs.Readiness.{ready_in}

pub loop-number-preserved : goal.loop-number-preserved
loop-number-preserved c =
    passed (ready_in c.args.facts.now.script c.args.facts.now.entries c.args.tasks.now.out c.args.family) c.loop-number.number c.args.count 0 _ c.loop-number-test.true
    (sym c.in_ok-key.ensures ∙ c.in_default.is) c.loop-number.invariant

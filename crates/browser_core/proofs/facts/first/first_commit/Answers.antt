use Rattle.std.proofs.Common.{◌∙◌, ◌<◌, ap, subst, sym}
use Rattle.history_rules.specs.Processes.{started}
use Rattle.history_steps.specs.Nexts.{process_commits}
use Rattle.browser_core.proofs.Firsts.{list_passed}
use Rattle.browser_core.proofs.facts.first.first_commit.Goals as goal

pub loop-process-preserved : goal.loop-process-preserved
loop-process-preserved c =
    list_passed (process_commits c.args.facts.now.script c.args.facts.now.entries) c.loop-process.process (started c.args.facts.now.entries) _
    (subst (λ n. c.loop-process.process < n) (c.started-process-end.ensures.count ∙ ap started c.entries.ensures) c.loop-process-test.true)
    (sym c.in_default.is ∙ c.in_ok-entry.ensures.first) c.loop-process.invariant

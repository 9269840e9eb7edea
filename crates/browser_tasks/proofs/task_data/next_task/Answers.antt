use Rattle.std.proofs.Common.{subst}
use Rattle.browser_tasks.proofs.Holding.{can_hold}
use Rattle.browser_tasks.proofs.task_data.next_task.Goals as goal
use Rattle.browser_tasks.specs.Readiness.{ChoosesWell}

pub task_of-requires : goal.task_of-requires
task_of-requires c =
    can_hold c.args.facts.now.script c.args.facts.now.entries c.args.tasks.now.out c.args.kind c.in-Some.key c.requires.legal
    c.facts_are_kept.ensures.script c.facts_are_kept.ensures.entries
    (subst (ChoosesWell c.args.facts.now.script c.args.facts.now.entries c.args.tasks.now.out c.args.kind) c.in-Some.is c.in_ok-key.ensures)

pub returns-in-None-clause-chosen : goal.returns-in-None-clause-chosen
returns-in-None-clause-chosen c =
    subst (ChoosesWell c.args.facts.now.script c.args.facts.now.entries c.args.tasks.now.out c.args.kind) c.in-None.is c.in_ok-key.ensures

use Rattle.std.proofs.Common.{◌∙◌, ap, subst}
use Rattle.browser_tasks.proofs.Loads.{load_quiet, load_some}
use Rattle.browser_tasks.proofs.outcomes.load_candidate.Goals as goal
use Rattle.browser_tasks.specs.Kept.{Keeps}
use Rattle.browser_tasks.specs.Objects.{delivery_next}
use Rattle.browser_tasks.specs.Outcomes.{IsOfStep}

pub returns-in-Some-clause-answers : goal.returns-in-Some-clause-answers
returns-in-Some-clause-answers c =
    let kept = subst (Keeps (IsOfStep c.args.done.now.request c.args.done.now.step) c.in_ok-given.given) c.in-Some.is c.keep_delivery.ensures in
    load_some c.args.facts.now.script c.args.facts.now.entries c.args.done.now.request c.args.done.now.step c.in_ok-given.given c.in-Some.entry
    (c.in_ok-may_deliver.ensures.0 c.if-not-branch.false) (c.in_ok-given.ensures ∙ ap (delivery_next c.args.facts.now.script c.args.facts.now.entries) c.from.ensures) kept.0 kept.1

pub returns-in-Some-clause-quiet : goal.returns-in-Some-clause-quiet
returns-in-Some-clause-quiet c =
    let kept = subst (Keeps (IsOfStep c.args.done.now.request c.args.done.now.step) c.in_ok-given.given) c.in-Some.is c.keep_delivery.ensures in
    load_quiet c.args.facts.now.script c.args.facts.now.entries c.args.done.now.request c.args.done.now.step c.in-Some.entry kept.1

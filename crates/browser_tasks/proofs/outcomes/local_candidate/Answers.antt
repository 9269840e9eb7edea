use Rattle.std.proofs.Common.{◌∙◌, ap, subst}
use Rattle.history_steps.specs.MayFollow.{local_next}
use Rattle.browser_tasks.proofs.Acts.{local_quiet, local_some}
use Rattle.browser_tasks.proofs.outcomes.local_candidate.Goals as goal
use Rattle.browser_tasks.specs.Kept.{IsLocalOf, Keeps}

pub returns-in-Some-clause-answers : goal.returns-in-Some-clause-answers
returns-in-Some-clause-answers c =
    let kept = subst (Keeps (IsLocalOf c.args.action c.args.act.now) c.in_ok-given.given) c.in-Some.is c.keep_local.ensures in
    local_some c.args.facts.now.script c.args.facts.now.entries c.args.document c.args.action c.args.act.now c.in_ok-given.given c.in-Some.entry
    (c.in_ok-given.ensures ∙ ap (local_next c.args.facts.now.script c.args.facts.now.entries) c.from.ensures) kept.0 kept.1

pub returns-in-Some-clause-quiet : goal.returns-in-Some-clause-quiet
returns-in-Some-clause-quiet c =
    let kept = subst (Keeps (IsLocalOf c.args.action c.args.act.now) c.in_ok-given.given) c.in-Some.is c.keep_local.ensures in
    local_quiet c.args.facts.now.script c.args.facts.now.entries c.args.document c.args.action c.args.act.now c.in-Some.entry kept.1

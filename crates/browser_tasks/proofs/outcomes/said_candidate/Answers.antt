use Rattle.std.proofs.Common.{◌∙◌, ap, subst}
use Rattle.history.specs.Sayings.{saying_next}
use Rattle.browser_tasks.proofs.Acts.{said_some}
use Rattle.browser_tasks.proofs.outcomes.said_candidate.Goals as goal
use Rattle.browser_tasks.specs.Kept.{IsSayingOf, Keeps}

pub returns-in-Some-clause-answers : goal.returns-in-Some-clause-answers
returns-in-Some-clause-answers c =
    let kept = subst (Keeps (IsSayingOf c.args.action c.args.message.now) c.in_ok-given.given) c.in-Some.is c.keep_saying.ensures in
    said_some c.args.facts.now.script c.args.facts.now.entries c.args.document c.args.action c.args.message.now c.in_ok-given.given c.in-Some.saying
    (c.in_ok-given.ensures ∙ ap (saying_next c.args.facts.now.script c.args.facts.now.entries) c.from.ensures) kept.0 kept.1

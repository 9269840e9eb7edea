use Rattle.std.proofs.Common.{subst, sym}
use Rattle.std.specs.Prelude.{IfOk}
use Rattle.browser_tasks.proofs.outcomes.outcome_candidate.Goals as goal
use Rattle.browser_tasks.specs.Outcomes.{AnswersWell}

pub returns-in-Act-clause-answers : goal.returns-in-Act-clause-answers
returns-in-Act-clause-answers c =
    subst (λ o. IfOk c.act_candidate.result (AnswersWell c.args.facts.now.script c.args.facts.now.entries o)) (sym c.in-Act.is) c.act_candidate.ensures.answers

pub returns-in-Load-clause-answers : goal.returns-in-Load-clause-answers
returns-in-Load-clause-answers c =
    subst (λ o. IfOk c.load_candidate.result (AnswersWell c.args.facts.now.script c.args.facts.now.entries o)) (sym c.in-Load.is) c.load_candidate.ensures.answers

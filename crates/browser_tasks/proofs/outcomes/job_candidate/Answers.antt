use Rattle.browser_tasks.proofs.Jobs.{job_some}
use Rattle.browser_tasks.proofs.outcomes.job_candidate.Goals as goal

pub returns-in-Some-clause-answers : goal.returns-in-Some-clause-answers
returns-in-Some-clause-answers c =
    job_some c.args.facts.now.script c.args.facts.now.entries c.args.job _ c.in-Some.entry c.in_ok-entry.ensures c.in-Some.is

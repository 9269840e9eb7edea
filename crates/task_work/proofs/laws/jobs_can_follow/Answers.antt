use Rattle.task_work.proofs.Bringing.{jobs_follow}
use Rattle.task_work.proofs.laws.jobs_can_follow.Goals as goal

pub returns : goal.returns
returns c = jobs_follow

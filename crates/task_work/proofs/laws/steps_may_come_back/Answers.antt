use Rattle.task_work.proofs.Standing.{steps_come_back}
use Rattle.task_work.proofs.laws.steps_may_come_back.Goals as goal

pub returns : goal.returns
returns c = steps_come_back

use Rattle.task_work.proofs.Bringing.{now_brings_back, outcomes_stay}
use Rattle.task_work.proofs.laws.outcomes_may_come_back_later.Goals as goal

pub returns : goal.returns
returns c = record { now = now_brings_back; later = outcomes_stay }

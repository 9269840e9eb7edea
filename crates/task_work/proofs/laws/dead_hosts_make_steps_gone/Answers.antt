use Rattle.task_work.proofs.Gone.{gone_comes_back, gone_is_too_late}
use Rattle.task_work.proofs.laws.dead_hosts_make_steps_gone.Goals as goal

pub returns : goal.returns
returns c = record { comes = gone_comes_back; late = gone_is_too_late }

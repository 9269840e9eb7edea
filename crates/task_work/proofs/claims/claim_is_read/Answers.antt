use Rattle.task_work.proofs.Claiming.{task_is_of}
use Rattle.task_work.proofs.claims.claim_is_read.Goals as goal

pub returns : goal.returns
returns c = task_is_of c.args.script.now c.args.entries.now c.args._task.now c.script_is_kept.ensures c.entries_are_kept.ensures

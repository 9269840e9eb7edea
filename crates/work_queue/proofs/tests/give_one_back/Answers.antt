use Rattle.std.proofs.Common.{◌∙◌, ap}
use Rattle.work_queue.specs.Keys.{key_of}
use Rattle.work_queue.specs.Work.{is_out}
use Rattle.work_queue.proofs.Apart.{claimed_is_out}
use Rattle.work_queue.proofs.tests.give_one_back.Goals as goal

pub give_back-requires : goal.give_back-requires
give_back-requires c = ap (is_out (key_of c.in-Task.task)) c.in-Task.ensures.answer.out ∙ claimed_is_out _ (key_of c.in-Task.task)

use Rattle.std.proofs.Common.{arith}
use Rattle.work_queue.proofs.Apart.{apart_same}
use Rattle.work_queue.proofs.tasks.Tasks.reserve.Goals as goal

pub invariant_of-self : goal.invariant_of-self
invariant_of-self c = (
  apart_same c.self.inside.ready.items c.make_room.new.ready.items c.self.inside.out.items c.make_room.new.out.items c.make_room.ensures.ready c.make_room.ensures.out c.self.invariant.0,
  omega arith,
  omega arith,
  omega arith,
)

use Rattle.std.proofs.Common.{arith}
use Rattle.work_queue.proofs.Apart.{apart_claimed}
use Rattle.work_queue.proofs.tasks.Tasks.claim.Goals as goal

pub invariant_of-self : goal.invariant_of-self
invariant_of-self c = (
  apart_claimed c.self.inside.ready.items c.take_for.new.ready.items c.self.inside.out.items c.push_reserved.new.self.items c.in-Some.task c.key.result
      c.in-Some.ensures.takes.counts c.key.ensures c.push_reserved.ensures.items c.self.invariant.0,
  omega (arith, c.in-Some.ensures.len),
  omega (arith, c.in-Some.ensures.len),
  omega (arith, c.in-Some.ensures.len),
)

pub invariant_of-self-in-None : goal.invariant_of-self-in-None
invariant_of-self-in-None c = rw c.in-None.ensures.none c.self.invariant

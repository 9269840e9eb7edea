use Rattle.std.proofs.Common.{ap, arith}
use Rattle.work_queue.proofs.Apart.{apart_done, same_if_absent}
use Rattle.work_queue.proofs.tasks.Tasks.done.Goals as goal

pub take_key-requires : goal.take_key-requires
take_key-requires c = λ other. omega (arith, c.self.invariant.0.at_most_one other)

pub returns-clause-absent : goal.returns-clause-absent
returns-clause-absent c =
    same_if_absent c.take_key.result c.args.self.now _ c.self.inside.out.items (ap (λ w. w.ready) c.self.view_is) c.take_key.ensures.absent (ap (λ w. w.out) c.self.view_is)

pub invariant_of-self : goal.invariant_of-self
invariant_of-self c = (
  apart_done c.self.inside.ready.items c.self.inside.out.items c.take_key.new.out.items c.args.key c.take_key.result c.take_key.ensures.counts c.self.invariant.0,
  omega arith,
  omega arith,
  omega arith,
)

use Rattle.work_queue.proofs.tasks.Tasks.has.Goals as goal

pub returns-then-has_ready-clause-apart : goal.returns-then-has_ready-clause-apart
returns-then-has_ready-clause-apart c = rw (← c.self.view_is) c.self.invariant.0

pub returns-else-has_ready-clause-apart : goal.returns-else-has_ready-clause-apart
returns-else-has_ready-clause-apart c = rw (← c.self.view_is) c.self.invariant.0

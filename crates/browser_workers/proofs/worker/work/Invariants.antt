use Rattle.browser_workers.proofs.worker.work.Given as goal
use Rattle.browser_workers.specs.Passes.{HasGoneOn}

-- the pass goes on
abbrev pub invariant-loop : goal.invariant-loop
invariant-loop g l = HasGoneOn l.fn.pass l.pass

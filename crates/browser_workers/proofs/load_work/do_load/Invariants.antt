use Rattle.std.proofs.Common.{◌≡◌}
use Rattle.browser_workers.proofs.load_work.do_load.Given as goal
use Rattle.browser_workers.specs.Passes.{HasGoneOn}
use Rattle.task_work.specs.Stands.{StandsWithin, script_of}

-- the pass goes on, and the load stands within the history that it has seen
abbrev pub invariant-loop : goal.invariant-loop
invariant-loop g l = HasGoneOn l.fn.pass l.pass × StandsWithin g.B.Bench.rule l.pass.seen l.load × (script_of l.load ≡ g.B.Bench.pages)

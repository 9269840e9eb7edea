use Rattle.std.proofs.Common.{arith}
use Rattle.browser_workers.proofs.Loads.{process_small}
use Rattle.browser_workers.proofs.load_work.go_on.Goals as goal

pub standing-standing-requires-clause-small : goal.standing-standing-requires-clause-small
standing-standing-requires-clause-small g c = omega (arith, c.process.ensures, process_small g.B.Bench.rule c.args.pass.now.seen c.args.load.now c.requires.stands)

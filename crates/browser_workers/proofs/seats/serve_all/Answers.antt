use Rattle.std.proofs.Common.{arith, rules}
use Rattle.browser_workers.proofs.Places.{by_call, have_worked}
use Rattle.browser_workers.proofs.seats.serve_all.Goals as goal

pub returns : goal.returns
returns g c = have_worked g.B.Bench.rule g.B.Bench.pages c.args.seats.now c.for_each_mut.new.s (omega (arith, c.for_each_mut.auto.s)) (λ i d within.
    let k = (c.for_each_mut.ensures i d within).1 in
    by_call g.B.Bench.rule g.B.Bench.pages _ _ k.argument.now k.after_call.now k.argument_is k.left (search rules))

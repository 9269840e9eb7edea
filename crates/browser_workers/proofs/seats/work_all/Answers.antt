use Rattle.std.proofs.Common.{arith, ◌∙◌}
use Rattle.browser_workers.proofs.Places.{after_work}
use Rattle.browser_workers.proofs.seats.work_all.Goals as goal

pub gather-requires-clause-seats : goal.gather-requires-clause-seats
gather-requires-clause-seats g c = (after_work g.B.Bench.rule g.B.Bench.pages (g.B.Bench.desk c.args.bench.now) c.args.pass.seen c.staff.new.seats.len c.args.pass.weight c.staff.new.seats.items
    c.as_mut_slice.result.now c.serve_all.new.seats c.as_mut_slice.ensures.len c.as_mut_slice.ensures.value c.staff.ensures.seats c.staff.ensures.seen c.staff.ensures.weight c.serve_all.ensures).seats

pub gather-requires-clause-some : goal.gather-requires-clause-some
gather-requires-clause-some g c =
    let w = (after_work g.B.Bench.rule g.B.Bench.pages (g.B.Bench.desk c.args.bench.now) c.args.pass.seen c.staff.new.seats.len c.args.pass.weight c.staff.new.seats.items
    c.as_mut_slice.result.now c.serve_all.new.seats c.as_mut_slice.ensures.len c.as_mut_slice.ensures.value c.staff.ensures.seats c.staff.ensures.seen c.staff.ensures.weight c.serve_all.ensures).weight in
    omega (arith, w, c.requires.workers.0, c.requires.workers.1)

pub returns-clause-weight : goal.returns-clause-weight
returns-clause-weight g c = c.gather.ensures.weight ∙ (after_work g.B.Bench.rule g.B.Bench.pages (g.B.Bench.desk c.args.bench.now) c.args.pass.seen c.staff.new.seats.len c.args.pass.weight c.staff.new.seats.items
    c.as_mut_slice.result.now c.serve_all.new.seats c.as_mut_slice.ensures.len c.as_mut_slice.ensures.value c.staff.ensures.seats c.staff.ensures.seen c.staff.ensures.weight c.serve_all.ensures).weight

pub returns-clause-seen : goal.returns-clause-seen
returns-clause-seen g c = c.gather.ensures.seen c.args.pass.seen (after_work g.B.Bench.rule g.B.Bench.pages (g.B.Bench.desk c.args.bench.now) c.args.pass.seen c.staff.new.seats.len c.args.pass.weight c.staff.new.seats.items
    c.as_mut_slice.result.now c.serve_all.new.seats c.as_mut_slice.ensures.len c.as_mut_slice.ensures.value c.staff.ensures.seats c.staff.ensures.seen c.staff.ensures.weight c.serve_all.ensures).seen

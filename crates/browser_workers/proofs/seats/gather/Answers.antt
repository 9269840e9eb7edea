use Rattle.std.proofs.Common.{◌∙◌, arith}
use Rattle.policy_table.proofs.Lists.{starts_with_itself, starts_with_start}
use Rattle.browser_workers.proofs.Places.{still_finished, takes_out}
use Rattle.browser_workers.proofs.seats.gather.Goals as goal

pub loop-seat-init : goal.loop-seat-init
loop-seat-init g c =
    let t = takes_out g.B.Bench.rule g.B.Bench.pages (g.B.Bench.desk c.args.bench.now) c.args.seats.items c.pop.new.self.items c.in-Some.last c.in-Some.ensures.items c.requires.seats in (
      t.seats,
      t.is.at_desk,
      t.weight,
      t.seen,
      λ over. record { front = c.in-Some.last.pass.seen; finished = t.is.over over; begins = starts_with_itself c.in-Some.last.pass.seen },
    )

pub take_in-finished-requires : goal.take_in-finished-requires
take_in-finished-requires g c =
    let t = takes_out g.B.Bench.rule g.B.Bench.pages (g.B.Bench.desk c.args.bench.now) c.loop-seat.seats.items c.pop-in-loop-seat.new.self.items c.in-Some-pop.seat c.in-Some-pop.ensures.items c.loop-seat.invariant.0 in
    record { desk = (c.loop-seat.invariant.1, t.is.at_desk) }

pub loop-seat-preserved : goal.loop-seat-preserved
loop-seat-preserved g c =
    let t = takes_out g.B.Bench.rule g.B.Bench.pages (g.B.Bench.desk c.args.bench.now) c.loop-seat.seats.items c.pop-in-loop-seat.new.self.items c.in-Some-pop.seat c.in-Some-pop.ensures.items c.loop-seat.invariant.0 in
    let before = c.loop-seat.pass.seen in
    let after = c.take_in-finished.new.pass.seen in (
      t.seats,
      c.take_in-finished.ensures.desk ∙ c.loop-seat.invariant.1,
      omega (arith, c.take_in-finished.ensures.weight, c.loop-seat.invariant.2, t.weight),
      λ h seen. starts_with_start h before after (c.loop-seat.invariant.3 h seen) c.take_in-finished.ensures.seen,
      λ over. still_finished g.B.Bench.rule g.B.Bench.pages before after c.take_in-finished.ensures.seen (c.loop-seat.invariant.4 (c.take_in-finished.ensures.finished over)),
    )

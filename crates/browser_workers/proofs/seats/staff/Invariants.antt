use Rattle.std.proofs.Common.{◌≡◌, ◌+◌, vec_capacity, vec_len}
use Rattle.browser_workers.proofs.seats.staff.Given as goal
use Rattle.browser_workers.specs.Seats.{AreSeats, HaveSeen, weights}

-- each place has one unit of the weight, and the pass has the rest
abbrev pub invariant-loop-worker : goal.invariant-loop-worker
invariant-loop-worker g l =
    AreSeats g.B.Bench.rule g.B.Bench.pages (g.B.Bench.desk l.bench) l.seats.items
    × HaveSeen l.fn.pass.seen l.seats.items
    × (weights l.seats.items + l.pass.weight ≡ l.fn.pass.weight)
    × (l.pass.weight + l.worker ≡ l.fn.pass.weight + 1)
    × (vec_len l.seats + 1 ≡ l.worker)
    × (vec_capacity l.seats ≡ vec_capacity l.fn.seats)
    × (l.pass.desk ≡ l.fn.pass.desk)
    × (l.pass.seen ≡ l.fn.pass.seen)

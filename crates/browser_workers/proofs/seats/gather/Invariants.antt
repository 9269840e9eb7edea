use Rattle.std.proofs.Common.{◌≡◌, ◌+◌, List, true, vec_len}
use Rattle.history_entry.specs.declared.entry.Entry.{Entry}
use Rattle.policy_table.specs.Histories.{StartsWith}
use Rattle.browser_workers.proofs.seats.gather.Given as goal
use Rattle.browser_workers.specs.Seats.{AreSeats, BeginsFinished, HaveSeen, weights}

-- the pass has the weight of the places that it has met, and has seen all that they have
abbrev pub invariant-loop-seat : goal.invariant-loop-seat
invariant-loop-seat g l =
    AreSeats g.B.Bench.rule g.B.Bench.pages (g.B.Bench.desk l.bench) l.seats.items
    × (l.pass.desk ≡ g.B.Bench.desk l.bench)
    × (l.pass.weight + weights l.seats.items ≡ weights l.fn.seats.items)
    × ((h : List Entry) → HaveSeen h l.fn.seats.items → StartsWith l.pass.seen h)
    × (l.finished ≡ true → BeginsFinished g.B.Bench.rule g.B.Bench.pages l.pass.seen)

abbrev pub decreases-loop-seat : goal.decreases-loop-seat
decreases-loop-seat g l = vec_len l.seats

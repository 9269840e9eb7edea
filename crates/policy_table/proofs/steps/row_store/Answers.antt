use Rattle.std.proofs.Common.{arith}
use Rattle.policy_table.proofs.Keeping.{row_keeps, row_below}
use Rattle.policy_table.proofs.steps.row_store.Goals as goal

pub store-requires : goal.store-requires
store-requires g c = let small = row_below g.O.Booked.history g.O.Booked.standing c.args.seat.now.me c.args.process c.args.standing c.requires.call in
    (c.requires.desk.0, omega arith, row_keeps g.O.Booked.history g.O.Booked.standing _ _ _ _ _ _ c.requires.call c.encode.ensures)

use Rattle.std.proofs.Common.{arith}
use Rattle.policy_table.proofs.Keeping.{join_keeps}
use Rattle.policy_table.proofs.steps.join_seat.Goals as goal

pub join_seat-requires : goal.join_seat-requires
join_seat-requires g c = (
  c.requires.desk.0.0,
  c.requires.desk.1.0,
  c.requires.idle.2,
  omega arith,
  join_keeps g.O.Booked.history g.O.Booked.standing _ _ _ _ c.requires.weight c.requires.idle.0 c.requires.idle.1,
)

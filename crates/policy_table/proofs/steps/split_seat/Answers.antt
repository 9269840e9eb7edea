use Rattle.std.proofs.Common.{arith}
use Rattle.policy_table.proofs.Keeping.{split_keeps}
use Rattle.policy_table.proofs.steps.split_seat.Goals as goal

pub split_seat-requires : goal.split_seat-requires
split_seat-requires g c = (c.requires.desk.0, omega arith, split_keeps g.O.Booked.history g.O.Booked.standing _ _ c.requires.weight)

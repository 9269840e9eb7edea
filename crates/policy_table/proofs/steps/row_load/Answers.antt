use Rattle.std.proofs.Common.{arith}
use Rattle.policy_table.proofs.Keeping.{row_load_keeps}
use Rattle.policy_table.proofs.steps.row_load.Goals as goal

pub load-requires : goal.load-requires
load-requires g c = let small = c.requires.small in (c.requires.desk.0, omega arith, row_load_keeps g.O.Booked.history g.O.Booked.standing _ _ _ _ small)

use Rattle.std.proofs.Common.{arith}
use Rattle.policy_table.proofs.Keeping.{take_keeps}
use Rattle.policy_table.proofs.steps.take_turn.Goals as goal

pub compare_exchange-requires : goal.compare_exchange-requires
compare_exchange-requires g c = (c.requires.desk.0, omega arith, take_keeps g.O.Booked.history g.O.Booked.standing _ _ _ c.requires.weight)

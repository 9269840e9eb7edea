use Rattle.std.proofs.Common.{arith}
use Rattle.policy_table.proofs.Keeping.{open_keeps}
use Rattle.policy_table.proofs.steps.open_table.Goals as goal

pub store-requires : goal.store-requires
store-requires g c = (c.requires.desk.0, omega arith, open_keeps g.O.Booked.history g.O.Booked.standing _ _ _ c.requires.opener.0 c.requires.opener.1)

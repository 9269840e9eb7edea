use Rattle.std.proofs.Common.{arith}
use Rattle.policy_table.proofs.Keeping.{entry_keeps}
use Rattle.policy_table.proofs.steps.entry_store.Goals as goal

pub store-requires : goal.store-requires
store-requires g c = (c.requires.desk.0, omega arith, entry_keeps g.O.Booked.history g.O.Booked.standing _ _ _ c.requires.call)

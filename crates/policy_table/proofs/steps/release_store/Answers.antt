use Rattle.std.proofs.Common.{arith}
use Rattle.policy_table.proofs.Keeping.{release_keeps}
use Rattle.policy_table.proofs.steps.release_store.Goals as goal

pub store-requires : goal.store-requires
store-requires g c = (c.requires.desk.0, omega arith, release_keeps g.O.Booked.history g.O.Booked.standing _ _ _ c.requires.turn.0 c.requires.turn.1 c.requires.home)

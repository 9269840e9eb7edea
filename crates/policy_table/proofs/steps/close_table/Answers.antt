use Rattle.policy_table.proofs.Keeping.{last_pass_takes}
use Rattle.policy_table.proofs.steps.close_table.Goals as goal

pub returns : goal.returns
returns g c = last_pass_takes g.O.Booked.history g.O.Booked.standing _ _ _ _ c.take-slot.result c.requires.last.0 c.requires.last.1 c.close_with-closed.ensures.values.2 c.take-slot.ensures.value

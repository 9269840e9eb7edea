use Rattle.task_work.proofs.Standing.{held_stays, loads_go_on, standing_stays}
use Rattle.task_work.proofs.laws.loads_stand_within_later_histories.Goals as goal

pub returns : goal.returns
returns c = record { stays = standing_stays; held = held_stays; goes_on = loads_go_on }

use Rattle.process_standings.proofs.Deaths.{dead_stay_dead}
use Rattle.process_standings.proofs.laws.dead_processes_stay_dead.Goals as goal

pub returns : goal.returns
returns c = dead_stay_dead

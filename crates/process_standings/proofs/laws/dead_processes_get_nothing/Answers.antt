use Rattle.process_standings.proofs.Deaths.{dead_get_nothing, dead_get_nothing_later}
use Rattle.process_standings.proofs.laws.dead_processes_get_nothing.Goals as goal

pub returns : goal.returns
returns c = record { now = dead_get_nothing; later = dead_get_nothing_later }

use Rattle.process_standings.proofs.Deaths.{requests_stay}
use Rattle.process_standings.proofs.laws.requests_stay_in_their_processes.Goals as goal

pub returns : goal.returns
returns c = requests_stay

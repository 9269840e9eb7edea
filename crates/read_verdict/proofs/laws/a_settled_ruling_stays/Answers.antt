use Rattle.read_verdict.proofs.Judging.{ruling_stays}
use Rattle.read_verdict.proofs.laws.a_settled_ruling_stays.Goals as goal

pub returns : goal.returns
returns c = ruling_stays

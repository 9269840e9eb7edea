use Rattle.script_model.proofs.Rows.{verdict_stays}
use Rattle.script_model.proofs.laws.a_settled_verdict_stays.Goals as goal

pub returns : goal.returns
returns c = verdict_stays

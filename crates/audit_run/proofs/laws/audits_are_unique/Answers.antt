use Rattle.audit_run.proofs.Unique.{one_audit}
use Rattle.audit_run.proofs.laws.audits_are_unique.Goals as goal

pub returns : goal.returns
returns c = one_audit

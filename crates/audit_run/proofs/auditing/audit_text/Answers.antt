use Rattle.std.proofs.Common.{subst}
use Rattle.std.specs.Prelude.{IfOk}
use Rattle.script_model.specs.ScriptData.{ScriptData}
use Rattle.audit_run.proofs.Following.{told_audit}
use Rattle.audit_run.specs.Audits.{IsTold, with_policy}
use Rattle.audit_run.proofs.auditing.audit_text.Goals as goal

pub returns-in-Ok : goal.returns-in-Ok
returns-in-Ok g c =
    let rule = g.R.ServiceRule.rule in
    let told = subst (λ (s : ScriptData). IfOk c.audit_history.result (IsTold rule (with_policy c.in-Ok.policy s) c.in-Ok.history)) c.script.view_is c.audit_history.ensures in
    told_audit rule c.args.script c.args.text.now c.in-Ok.policy c.in-Ok.history c.audit_history.result c.in-Ok.ensures.read told

use Rattle.history_laws.proofs.All.{all_laws}
use Rattle.audit_run.specs.Audits.{under_text}
use Rattle.audit_run.proofs.Unique.{audit_answered, passing_legal}
use Rattle.audit_run.proofs.auditing.audit.Goals as goal

pub returns-clause-exact : goal.returns-clause-exact
returns-clause-exact g c = audit_answered g.R.ServiceRule.rule c.args.script c.args.text.now c.audit_text.result c.audit_text.ensures

pub returns-clause-commit : goal.returns-clause-commit
returns-clause-commit g c = λ n is h whose.
    (all_laws g.R.ServiceRule.rule (under_text c.args.text.now c.args.script) h (passing_legal g.R.ServiceRule.rule c.args.script c.args.text.now c.audit_text.result n c.audit_text.ensures is h whose)).commit

pub returns-clause-receive : goal.returns-clause-receive
returns-clause-receive g c = λ n is h whose.
    (all_laws g.R.ServiceRule.rule (under_text c.args.text.now c.args.script) h (passing_legal g.R.ServiceRule.rule c.args.script c.args.text.now c.audit_text.result n c.audit_text.ensures is h whose)).receive

pub returns-clause-judgement : goal.returns-clause-judgement
returns-clause-judgement g c = λ n is h whose.
    (all_laws g.R.ServiceRule.rule (under_text c.args.text.now c.args.script) h (passing_legal g.R.ServiceRule.rule c.args.script c.args.text.now c.audit_text.result n c.audit_text.ensures is h whose)).judgement

pub returns-clause-kill : goal.returns-clause-kill
returns-clause-kill g c = λ n is h whose.
    (all_laws g.R.ServiceRule.rule (under_text c.args.text.now c.args.script) h (passing_legal g.R.ServiceRule.rule c.args.script c.args.text.now c.audit_text.result n c.audit_text.ensures is h whose)).kill

pub returns-clause-honest : goal.returns-clause-honest
returns-clause-honest g c = λ n is h whose.
    (all_laws g.R.ServiceRule.rule (under_text c.args.text.now c.args.script) h (passing_legal g.R.ServiceRule.rule c.args.script c.args.text.now c.audit_text.result n c.audit_text.ensures is h whose)).honest

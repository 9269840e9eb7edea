use Rattle.service_rule.specs.Store.{store_rule}
use Rattle.history_laws.proofs.Runs.{firsts_legal}
use Rattle.audit_run.proofs.laws.runs_pass.Goals as goal

pub returns : goal.returns
returns c h run = c.histories_pass.ensures.store c.args.script.now.policy h (firsts_legal store_rule c.args.script.now h run.firsts) run.finished

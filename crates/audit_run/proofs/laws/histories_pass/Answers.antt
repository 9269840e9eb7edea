use Rattle.service_rule.specs.Store.{store_rule}
use Rattle.history_laws.proofs.FirstPolicy.{store_refuses}
use Rattle.kept_entries.proofs.StoreTexts.{store_answers_texts}
use Rattle.audit_run.proofs.Passing.{histories_pass}
use Rattle.audit_run.proofs.laws.histories_pass.Goals as goal

pub returns-clause-services : goal.returns-clause-services
returns-clause-services c = λ rule answers refuses. histories_pass rule c.args.script.now answers refuses c.script_is_kept.ensures c.script_is_within_limits.ensures

pub returns-clause-store : goal.returns-clause-store
returns-clause-store c = histories_pass store_rule c.args.script.now store_answers_texts store_refuses c.script_is_kept.ensures c.script_is_within_limits.ensures

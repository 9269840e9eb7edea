use Rattle.history_laws.proofs.FirstPolicy.{rules_are_of_the_policy, store_refuses}
use Rattle.history_laws.proofs.laws.rules_are_of_the_policy.Goals as goal

pub returns-clause-law : goal.returns-clause-law
returns-clause-law c = rules_are_of_the_policy

pub returns-clause-store : goal.returns-clause-store
returns-clause-store c = store_refuses

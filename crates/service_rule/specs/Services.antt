-- The rule by which a service answers, and the rules by which services refuse. Own rules.
use Rattle.std.specs.Prelude.{Bool, List, false, true, ℕ}
use Rattle.history_entry.specs.declared.rule.Rule.{Rule}
use Rattle.history_entry.specs.declared.rule.Rule.TheVariants.{S1, S2, S3, S4}
use Rattle.service_rule.specs.declared.service.Asked.{Asked}
use Rattle.service_rule.specs.declared.service.ServiceAnswer.{ServiceAnswer}

-- what a service answers: to its name, the origin's earlier requests, the current documents and the request
abbrev pub ServiceRule : Type 0
ServiceRule = List ℕ → List Asked → List ℕ → List ℕ → ServiceAnswer

-- the rules of services
abbrev pub is_service_rule : Rule → Bool
is_service_rule S1 = true
is_service_rule S2 = true
is_service_rule S3 = true
is_service_rule S4 = true
is_service_rule rule = false

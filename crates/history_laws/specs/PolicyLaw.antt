-- The policy law: rule B8 stands under the second policy alone, so a text of the first one has no B8.
use Rattle.std.specs.Prelude.{◌≡◌, Bool, List, false, true, ℕ}
use Rattle.std.specs.List.{list_all}
use Rattle.std.specs.Option.{option_map_or}
use Rattle.history_entry.specs.CarriedRules.{carried_rule}
use Rattle.history_entry.specs.declared.entry.Entry.{Entry}
use Rattle.history_entry.specs.declared.policy.Policy.{Policy}
use Rattle.history_entry.specs.declared.policy.Policy.TheVariants.{One, Two}
use Rattle.history_entry.specs.declared.rule.Rule.{Rule}
use Rattle.history_entry.specs.declared.rule.Rule.TheVariants.{B8}
use Rattle.script_model.specs.ScriptData.{ScriptData}
use Rattle.service_rule.specs.declared.service.Asked.{Asked}
use Rattle.service_rule.specs.declared.service.ServiceAnswer.TheVariants.{Refused}
use Rattle.service_rule.specs.Services.{ServiceRule, is_service_rule}
use Rattle.history_steps.specs.Run.{Legal}

-- the rule is one of the policy
abbrev pub is_rule_of : Policy → Rule → Bool
is_rule_of Two rule = true
is_rule_of One B8 = false
is_rule_of One rule = true

-- the rule that an entry carries, if it does, is one of the policy
abbrev pub carries_rule_of : Policy → Entry → Bool
carries_rule_of policy e = option_map_or (is_rule_of policy) (carried_rule e) true

-- the services refuse by rules of services
abbrev pub RefusesByServiceRules : ServiceRule → Type 0
RefusesByServiceRules rule = (name : List ℕ) (earlier : List Asked) (current request : List ℕ) (why : Rule)
    → rule name earlier current request ≡ Refused why → is_service_rule why ≡ true

-- each entry of a legal history carries a rule of the script's policy, or none
abbrev pub RulesAreOfThePolicy : ServiceRule → ScriptData → Type 0
RulesAreOfThePolicy rule s = RefusesByServiceRules rule
    → (h : List Entry) → Legal rule s h → list_all (carries_rule_of s.policy) h ≡ true

-- The text of a finished legal history passes.
use Rattle.std.proofs.Common.{◌≡◌, List, [], ◌∷◌, length, true, false, Option, refl, sym, ap, ◌∙◌, subst}
use Rattle.std.specs.List.{AllByRecursion, list_all}
use Rattle.std.specs.Option.{option_map_or}
use Rattle.std.proofs.lemmas.Bool.{and_parts}
use Rattle.history_entry.specs.declared.entry.Entry.{Entry}
use Rattle.history_entry.specs.declared.policy.Policy.{Policy}
use Rattle.history_entry.specs.declared.policy.Policy.TheVariants.{One, Two}
use Rattle.history_entry.specs.declared.rule.Rule.{Rule}
use Rattle.entry_reading.specs.Entries.{IsEntry}
use Rattle.script_model.specs.ScriptData.{ScriptData}
use Rattle.service_rule.specs.Services.{ServiceRule}
use Rattle.history_entries.specs.Text.{text_of}
use Rattle.history_text.specs.Texts.{AreEntriesOf, HasRuleOf, IsTextOf, policy_of}
use Rattle.history_text.proofs.Lines.{policy_told}
use Rattle.history_steps.specs.ScriptLimits.{IsWithinLimits}
use Rattle.history_laws.specs.PolicyLaw.{RefusesByServiceRules, carries_rule_of, is_rule_of}
use Rattle.history_laws.proofs.FirstPolicy.{rules_are_of_the_policy}
use Rattle.kept_entries.specs.EntryLaw.{AnswersTexts}
use Rattle.kept_entries.specs.KeptScripts.{IsKeptScript}
use Rattle.kept_entries.proofs.Entries.{entries_kept}
use Rattle.audit_run.specs.Audits.{HistoriesPass, IsFinishedWith, with_policy}

-- what a history's entries carry, a text of its policy may have
has_rule : (policy : Policy) (e : Entry) → carries_rule_of policy e ≡ true → HasRuleOf policy e
has_rule One e carries = λ is. let never : false ≡ true = ap (λ (o : Option Rule). option_map_or (is_rule_of One) o true) (sym is) ∙ carries in cc
has_rule Two e carries = tt

entries_of : (policy : Policy) (h : List Entry) → list_all (carries_rule_of policy) h ≡ true → AllByRecursion IsEntry h → AreEntriesOf policy h
entries_of policy [] rules kept = tt
entries_of policy (e ∷ h) rules kept =
    let both = and_parts (carries_rule_of policy e) (list_all (carries_rule_of policy) h) rules in
    ((kept.0, has_rule policy e both.0), entries_of policy h both.1 kept.1)

-- what a script keeps and its limits don't go by its policy
kept_with : (policy : Policy) (s : ScriptData) → IsKeptScript s → IsKeptScript (with_policy policy s)
kept_with policy s kept = record { start = kept.start; resources = kept.resources }

limits_with : (policy : Policy) (s : ScriptData) → IsWithinLimits s → IsWithinLimits (with_policy policy s)
limits_with policy s limits = record { few_pages = limits.few_pages; resources = limits.resources }

pub histories_pass : (rule : ServiceRule) (s : ScriptData) → AnswersTexts rule → RefusesByServiceRules rule → IsKeptScript s → IsWithinLimits s → HistoriesPass rule s
histories_pass rule s answers refuses kept limits policy h legal finished =
    let entries = entries_kept rule (with_policy policy s) answers (kept_with policy s kept) (limits_with policy s limits) h legal in
    let rules = rules_are_of_the_policy rule (with_policy policy s) refuses h legal in
    let whose : IsTextOf policy (text_of policy h) h = (entries_of policy h rules entries, refl) in
    let told : policy ≡ policy_of (text_of policy h) = sym (policy_told policy (text_of policy h) h whose) in
    let P : Policy → Type 0 = λ p. IsTextOf p (text_of policy h) h × IsFinishedWith rule (with_policy p s) h (length h) in
    let passed : P (policy_of (text_of policy h)) = subst P told (whose, record { legal = legal; finished = finished; count = refl }) in
    (h, passed.0, passed.1)

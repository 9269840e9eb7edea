-- A core stays in step: with nothing in its history, and with one entry more.
use Rattle.std.proofs.Common.{◌∙◌, ap, append-nil, refl, subst, sym}
use Rattle.std.specs.Prelude.{◌≡◌, ◌++◌, ◌∷◌, [], List, None, Option, Some, ℕ}
use Rattle.std.specs.Option.{option_to_list}
use Rattle.page_origin.specs.declared.origin.TupleOrigin.{TupleOrigin}
use Rattle.history_entry.specs.declared.entry.Entry.{Entry}
use Rattle.history_rules.specs.Services.{accepted_requests}
use Rattle.history_steps.proofs.Induction.{legal_more}
use Rattle.history_steps.specs.Run.{first_next}
use Rattle.message_filter.specs.Asking.{Kept}
use Rattle.script_model.specs.ScriptData.{ScriptData}
use Rattle.service_rule.specs.Services.{ServiceRule}
use Rattle.browser_core.proofs.FirstNext.{first_follows}
use Rattle.browser_core.specs.Cores.{IsInStep, KeepAllAccepted}

nothing_accepted : (name : List ℕ) (tuple : TupleOrigin) → accepted_requests [] name tuple ≡ []
unfolding accepted_requests
nothing_accepted name tuple = refl

-- a history without entries
pub none_in_step : (rule : ServiceRule) (kept : Kept) (s : ScriptData) → ((name : List ℕ) (tuple : TupleOrigin) → kept name tuple ≡ []) → IsInStep rule kept s []
none_in_step rule kept s empty = record {
  is_legal = λ i e at. absurd (cc);
  keeps = λ name tuple. empty name tuple ∙ sym (nothing_accepted name tuple);
}

-- the first of the next entries behind a history, if there is one
pub first_in_step : (rule : ServiceRule) (before after : Kept) (s : ScriptData) (h : List Entry) (first : Option Entry) → IsInStep rule before s h
    → first ≡ first_next rule s h → KeepAllAccepted after (h ++ option_to_list first) → IsInStep rule after s (h ++ option_to_list first)
first_in_step rule before after s h None step is keeps =
    record { is_legal = subst (λ g. Rattle.history_steps.specs.Run.Legal rule s g) (sym (append-nil h)) step.is_legal; keeps = keeps }
first_in_step rule before after s h (Some e) step is keeps =
    record { is_legal = legal_more rule s h e step.is_legal (first_follows rule s h e (sym is)); keeps = keeps }

-- where nothing was added
pub same_in_step : (rule : ServiceRule) (before after : Kept) (s : ScriptData) (h : List Entry) → IsInStep rule before s h → KeepAllAccepted after h → IsInStep rule after s h
same_in_step rule before after s h step keeps = record { is_legal = step.is_legal; keeps = keeps }

-- the same of a history that an entry was pushed behind
pub pushed_in_step : (rule : ServiceRule) (before after : Kept) (s : ScriptData) (h entries : List Entry) (first : Option Entry) (e : Entry) (longer : List Entry)
    → entries ≡ h → first ≡ Some e → IsInStep rule before s h → first ≡ first_next rule s entries
    → KeepAllAccepted after (entries ++ option_to_list first) → longer ≡ h ++ e ∷ [] → IsInStep rule after s longer
pushed_in_step rule before after s h entries first e longer same some step is keeps pushed =
    let a = subst (λ (o : Option Entry). KeepAllAccepted after (entries ++ option_to_list o)) some keeps in
    let b = subst (λ (xs : List Entry). KeepAllAccepted after (xs ++ e ∷ [])) same a in
    let next : Some e ≡ first_next rule s h = sym some ∙ is ∙ ap (first_next rule s) same in
    subst (λ (g : List Entry). IsInStep rule after s g) (sym pushed) (first_in_step rule before after s h (Some e) step next b)

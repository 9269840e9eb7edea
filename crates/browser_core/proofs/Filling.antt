-- What becomes of an outcome, and of the history with it.
use Rattle.std.proofs.Common.{◌∙◌, ap, refl, subst, sym}
use Rattle.std.specs.Prelude.{◌≡◌, ◌++◌, ◌∷◌, [], List, None, Option, Some, false, length, ℕ}
use Rattle.history_entry.specs.declared.entry.Entry.{Entry}
use Rattle.script_model.specs.ScriptData.{ScriptData}
use Rattle.service_rule.specs.Services.{ServiceRule}
use Rattle.history_steps.proofs.Induction.{legal_more}
use Rattle.history_steps.specs.MayFollow.{MayFollow}
use Rattle.history_steps.specs.Run.{Legal}
use Rattle.message_filter.specs.Asking.{Kept}
use Rattle.browser_tasks.specs.Candidates.{entry_of}
use Rattle.browser_tasks.specs.Outcomes.{AnswersWell, IsEntryOf, IsOutcome}
use Rattle.browser_tasks.specs.declared.candidate.Candidate.{Candidate}
use Rattle.browser_tasks.specs.declared.outcome.Outcome.{Outcome}
use Rattle.browser_core.specs.Applying.{AddsEntry, IsTooLate}
use Rattle.browser_core.specs.Cores.{IsInStep, KeepAllAccepted}
use Rattle.browser_core.specs.Walking.{IsLastWell, Settles, TellsFollowing, WasPossible}
use Rattle.browser_core.specs.declared.facts.settling.Settled.{Settled}
use Rattle.browser_core.specs.declared.facts.settling.Settled.TheVariants.{Entry as Adds, Stale}

-- the entry that its candidate becomes
pub settles_entry : (rule : ServiceRule) (s : ScriptData) (h : List Entry) (outcome : Outcome) (found : Option Candidate) (candidate : Candidate) (entry : Entry) → Legal rule s h
    → AnswersWell s h outcome found → found ≡ Some candidate → entry ≡ entry_of rule s h candidate → Settles rule s h outcome (Adds entry)
settles_entry rule s h outcome found candidate entry legal answers is becomes =
    let a = subst (AnswersWell s h outcome) is answers in
    let b = a rule legal in
    subst (λ e. Settles rule s h outcome (Adds e)) (sym becomes) (b.0, b.1)

-- none of its entries may follow
pub none_follows : (s : ScriptData) (h : List Entry) (outcome : Outcome) (found : Option Candidate) → AnswersWell s h outcome found → found ≡ None → TellsFollowing s h outcome false
none_follows s h outcome found answers is = subst (AnswersWell s h outcome) is answers

pub settles_stale : (rule : ServiceRule) (s : ScriptData) (h : List Entry) (outcome : Outcome) (found : Option Candidate) (place : ℕ) → Legal rule s h
    → AnswersWell s h outcome found → found ≡ None → IsLastWell s h outcome (Some place) → Settles rule s h outcome (Stale place)
settles_stale rule s h outcome found place legal answers is last = (none_follows s h outcome found answers is rule legal, last rule legal)

pub was_possible : (rule : ServiceRule) (s : ScriptData) (h : List Entry) (outcome : Outcome) → Legal rule s h → IsOutcome rule s h outcome → WasPossible s h outcome
was_possible rule s h outcome legal is = record { rule = rule; legal = legal; outcome_is = is }

module _ (rule : ServiceRule) (s : ScriptData) (outcome : Outcome) (h entries : List Entry) (same : entries ≡ h) where
  -- a history that its entry was pushed behind
  pub adds : (e : Entry) (longer : List Entry) (place : ℕ) → Settles rule s entries outcome (Adds e) → longer ≡ h ++ e ∷ [] → place ≡ length entries
      → AddsEntry rule s outcome h longer place
  adds e longer place settles pushed at =
      let a = subst (λ g. Settles rule s g outcome (Adds e)) same settles in
      record { entry = e; is_of = a.0; follows = a.1; added = pushed; at_end = at ∙ ap (λ (g : List Entry). length g) same }

  -- a history that stays
  pub too_late : (left : List Entry) (place : ℕ) → Settles rule s entries outcome (Stale place) → left ≡ h → IsTooLate rule s outcome h left place
  too_late left place settles is =
      let a = subst (λ g. Settles rule s g outcome (Stale place)) same settles in
      record { none = a.0; last = a.1; same = is }

  -- with its entry the history is in step
  pub added_in_step : (before after : Kept) (e : Entry) (longer : List Entry) → IsInStep rule before s h → Settles rule s entries outcome (Adds e)
      → KeepAllAccepted after (entries ++ e ∷ []) → longer ≡ h ++ e ∷ [] → IsInStep rule after s longer
  added_in_step before after e longer step settles keeps pushed =
      let a = subst (λ g. Settles rule s g outcome (Adds e)) same settles in
      let b = subst (λ (g : List Entry). KeepAllAccepted after (g ++ e ∷ [])) same keeps in
      subst (λ g. IsInStep rule after s g) (sym pushed) (record { is_legal = legal_more rule s h e step.is_legal a.1; keeps = b })

-- Entries that follow one another, one by one, and the first that does not.
use Rattle.std.proofs.Common.{◌≡◌, ℕ, ◌<◌, List, [], ◌∷◌, ◌++◌, length, take, get_or, map, Some, Ok, Err, sym, ap, ◌∙◌, subst}
use Rattle.std.specs.List.{slice_get}
use Rattle.std.specs.Prelude.{IfOk, Result}
use Rattle.std.proofs.lemmas.List.{map-id}
use Rattle.std.proofs.lemmas.Option.{slice_get-get_or}
use Rattle.history_entry.specs.declared.entry.Entry.{Entry}
use Rattle.script_model.specs.ScriptData.{ScriptData}
use Rattle.service_rule.specs.Services.{ServiceRule}
use Rattle.history_steps.proofs.Induction.{legal_more}
use Rattle.history_steps.specs.MayFollow.{MayFollow}
use Rattle.history_steps.specs.Run.{Legal}
use Rattle.history_entry.specs.declared.policy.Policy.{Policy}
use Rattle.history_text.specs.Texts.{IsTextOf, policy_of}
use Rattle.history_text.proofs.Lines.{policy_told}
use Rattle.audit_run.specs.Audits.{IsAudit, IsFirstIllegal, IsTold, under_text, with_policy}
use Rattle.audit_run.specs.declared.answer.Audit.{Audit}
use Rattle.audit_run.specs.declared.answer.Audit.TheVariants.{BadLine, Entry as BadEntry, Legal as IsLegal, Unfinished}

-- one more entry
pub followed_more : (rule : ServiceRule) (s : ScriptData) (h g : List Entry) (e : Entry) → Legal rule s h → MayFollow rule s h e → g ≡ h ++ e ∷ [] → Legal rule s g
followed_more rule s h g e legal may is = rw is (legal_more rule s h e legal may)

-- the first entry of a list that may not follow those before it, which were taken one by one
pub stopped_at : (rule : ServiceRule) (s : ScriptData) (all taken h : List Entry) (n : ℕ) (e : Entry) → h ≡ taken → map (λ x. x) taken ≡ take (length taken) all → (length taken < length all) × (e ≡ get_or all (length taken) e) → n ≡ length h → Legal rule s h → ¬ MayFollow rule s h e → IsFirstIllegal rule s all n
stopped_at rule s all taken h n e same front next count legal not = subst (IsFirstIllegal rule s all) (sym place) first
  where
    before : h ≡ take (length taken) all
    before = same ∙ sym (map-id taken) ∙ front

    place : n ≡ length taken
    place = count ∙ ap (λ (g : List Entry). length g) same

    first : IsFirstIllegal rule s all (length taken)
    first = record {
      entry = e;
      there = slice_get-get_or all (length taken) e next.0 ∙ ap (λ (x : Entry). Some x) (sym next.1);
      before = subst (Legal rule s) before legal;
      illegal = λ may. not (subst (λ g. MayFollow rule s g e) (sym before) may);
    }

-- what is told of a history is told of its text
pub told_audit : {E : Type 0} (rule : ServiceRule) (s : ScriptData) (text : List ℕ) (policy : Policy) (h : List Entry) (result : Result Audit E) → IsTextOf policy text h → IfOk result (IsTold rule (with_policy policy s) h) → IfOk result (IsAudit rule s text)
told_audit {E} rule s text policy h result whose told = by_answer result moved.1
  where
    P : Policy → Type 0
    P p = IsTextOf p text h × IfOk result (IsTold rule (with_policy p s) h)

    moved : P (policy_of text)
    moved = subst P (sym (policy_told policy text h whose)) (whose, told)

    by_answer : (result : Result Audit E) → IfOk result (IsTold rule (under_text text s) h) → IfOk result (IsAudit rule s text)
    by_answer (Ok (IsLegal n)) told = (h, moved.0, told)
    by_answer (Ok (BadLine n)) told = absurd told
    by_answer (Ok (BadEntry n)) told = (h, moved.0, told)
    by_answer (Ok (Unfinished kind)) told = (h, moved.0, told)
    by_answer (Err why) told = tt

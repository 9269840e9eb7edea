-- Of the load of a request: what is found is of it and may follow, and where nothing is found nothing of it may.
use Rattle.std.proofs.Common.{◌∙◌, ap, refl, subst, sym, inl, inr}
use Rattle.std.specs.Prelude.{◌≡◌, ◌⊎◌, Bool, IfSome, List, None, Option, Some, false, true, ℕ}
use Rattle.std.specs.Option.{option_or}
use Rattle.history_entry.specs.declared.entry.EndHow.{EndHow}
use Rattle.history_entry.specs.declared.entry.Entry.{Entry}
use Rattle.history_entry.specs.declared.entry.Entry.TheVariants.{Commit, Crash, End, Exit, Head, Hop, Local, NavEnd, Opened, Order, Piece, Said, Warm}
use Rattle.history_entry.specs.declared.rule.Rule.{Rule}
use Rattle.script_model.specs.ScriptData.{ScriptData}
use Rattle.service_rule.specs.Services.{ServiceRule}
use Rattle.history_rules.proofs.Apart.{from_or}
use Rattle.history_steps.proofs.OneEach.{at_most_one}
use Rattle.history_steps.proofs.TheNexts.{from_end, from_head, from_piece}
use Rattle.history_steps.specs.Deliveries.{end_next, head_next, piece_next}
use Rattle.history_steps.specs.MayFollow.{MayFollow, next_of}
use Rattle.history_steps.specs.Objects.{RequestOf, object_of}
use Rattle.history_steps.specs.Run.{Legal}
use Rattle.read_verdict.specs.declared.step.Step.{Step}
use Rattle.browser_tasks.proofs.Forms.{end_form, head_form, piece_form}
use Rattle.browser_tasks.proofs.Jobs.{clash, none_some, or_none}
use Rattle.browser_tasks.specs.Candidates.{is_said}
use Rattle.browser_tasks.specs.Kept.{Keeps}
use Rattle.browser_tasks.specs.Objects.{IsDelivery, delivery_next}
use Rattle.browser_tasks.specs.Outcomes.{Answers, AnswersLoad, IsEntryOf, IsOfStep, MayDeliver}
use Rattle.browser_tasks.specs.declared.candidate.Candidate.{Candidate}
use Rattle.browser_tasks.specs.declared.candidate.Candidate.TheVariants.{Entry as Ready}
use Rattle.browser_tasks.specs.declared.outcome.Outcome.TheVariants as outcomes

pub delivery_object : (r : ℕ) (e : Entry) → IsDelivery r e → object_of e ≡ RequestOf r
delivery_object r (Head q why) is = ap RequestOf is
delivery_object r (Piece q i bytes) is = ap RequestOf is
delivery_object r (End q how) is = ap RequestOf is
delivery_object r e is = absurd is

pub delivery_quiet : (r : ℕ) (e : Entry) → IsDelivery r e → is_said e ≡ false
delivery_quiet r (Head q why) is = refl
delivery_quiet r (Piece q i bytes) is = refl
delivery_quiet r (End q how) is = refl
delivery_quiet r e is = absurd is

pub step_delivers : (r : ℕ) (step : Step) (e : Entry) → IsOfStep r step e → IsDelivery r e
step_delivers r step (Head q why) is = is.0
step_delivers r step (Piece q i bytes) is = is.0
step_delivers r step (End q how) is = is.0
step_delivers r step e is = absurd is

module _ (rule : ServiceRule) (s : ScriptData) (h : List Entry) (r : ℕ) where
  -- what is found is delivered to the request, and may follow
  pub delivery_fine : (e : Entry) → delivery_next s h r ≡ Some e → IsDelivery r e × MayFollow rule s h e
  unfolding delivery_next
  delivery_fine e is = elim (from_or (head_next s h r) (option_or (piece_next s h r) (end_next s h r)) e is) [
    | inl head ↦ (head_form s h (IsDelivery r) r (λ why. refl) e head, from_head rule s h r e head)
    | inr later ↦ elim (from_or (piece_next s h r) (end_next s h r) e later.1) [
      | inl piece ↦ (piece_form s h (IsDelivery r) r (λ i bytes. refl) e piece, from_piece rule s h r e piece)
      | inr ends ↦ (end_form s h (IsDelivery r) r (λ how. refl) e ends.1, from_end rule s h r e ends.1)
    ]
  ]

  -- where nothing is found, nothing that is delivered may follow
  pub delivery_none : delivery_next s h r ≡ None → (e : Entry) → IsDelivery r e → MayFollow rule s h e → ⊥
  unfolding delivery_next next_of
  delivery_none none (Head q why) is may =
      clash (head_next s h) q r (Head q why) is (or_none (head_next s h r) (option_or (piece_next s h r) (end_next s h r)) none).0 may
  delivery_none none (Piece q i bytes) is may =
      let a = or_none (head_next s h r) (option_or (piece_next s h r) (end_next s h r)) none in
      clash (piece_next s h) q r (Piece q i bytes) is (or_none (piece_next s h r) (end_next s h r) a.1).0 may
  delivery_none none (End q how) is may =
      let a = or_none (head_next s h r) (option_or (piece_next s h r) (end_next s h r)) none in
      clash (end_next s h) q r (End q how) is (or_none (piece_next s h r) (end_next s h r) a.1).1 may
  delivery_none none e is may = absurd is

  -- at a legal history what is delivered and may follow is what is found
  pub delivery_found : Legal rule s h → (o : Option Entry) → delivery_next s h r ≡ o → (e : Entry) → IsDelivery r e → MayFollow rule s h e → o ≡ Some e
  delivery_found legal None is e of may = absurd (delivery_none is e of may)
  delivery_found legal (Some x) is e of may =
      let a = delivery_fine x is in
      ap (λ y. Some y) (at_most_one rule s h x e legal a.1 may (delivery_object r x a.0 ∙ sym (delivery_object r e of)))

module _ (s : ScriptData) (h : List Entry) (r : ℕ) (step : Step) where
  -- what the request is delivered, if it is that of the step
  pub load_some : (given : Option Entry) (e : Entry) → MayDeliver s h r step → given ≡ delivery_next s h r → given ≡ Some e → IsOfStep r step e
      → AnswersLoad s h r step (Some (Ready e))
  load_some given e may is some fits rule legal = ((fits, may), (delivery_fine rule s h r e (sym is ∙ some)).1)

  pub load_none : (given : Option Entry) → given ≡ delivery_next s h r → IfSome given (λ x. IsOfStep r step x → ⊥) → AnswersLoad s h r step None
  load_none given is none rule legal = record {
    none = λ e of may. subst (λ o. IfSome o (λ x. IsOfStep r step x → ⊥)) (delivery_found rule s h r legal given (sym is) e (step_delivers r step e of.0) may) none of.0;
  }

  pub no_load : (MayDeliver s h r step → ⊥) → AnswersLoad s h r step None
  no_load not rule legal = record { none = λ e of may. not of.1 }

  pub load_quiet : (e : Entry) → IsOfStep r step e → is_said e ≡ false
  load_quiet e is = delivery_quiet r e (step_delivers r step e is)

-- Nothing stands behind a finished history.
use Rattle.std.proofs.Common.{ap, arith, refl, subst, sym, ◌∙◌}
use Rattle.std.proofs.Math.Seq.{take-length}
use Rattle.std.proofs.lemmas.List.{append-nil, take-append-le}
use Rattle.std.specs.Prelude.{◌≡◌, ◌++◌, ◌∷◌, [], Contains, List, Some, length, slice_get, take}
use Rattle.history_entry.specs.declared.entry.Entry.{Entry}
use Rattle.script_model.specs.ScriptData.{ScriptData}
use Rattle.service_rule.specs.Services.{ServiceRule}
use Rattle.history_steps.proofs.Induction.{legal_take}
use Rattle.history_steps.proofs.TheNexts.{are_the_nexts}
use Rattle.history_steps.specs.MayFollow.{MayFollow}
use Rattle.history_steps.specs.Run.{Finished, Legal}
use Rattle.browser_workers.specs.Seats.{BeginsFinished}

at_seam : {X : Type 0} (xs : List X) (y : X) (ys : List X) → slice_get (xs ++ y ∷ ys) (length xs) ≡ Some y
at_seam [] y ys = refl
at_seam (x ∷ xs) y ys = at_seam xs y ys

none_contained : {X : Type 0} (x : X) → Contains [] x → ⊥
none_contained x has = omega (arith, has.1)

module _ (rule : ServiceRule) (s : ScriptData) where
  -- of a finished history nothing may follow
  none_follows : (h : List Entry) (e : Entry) → Legal rule s h → Finished rule s h → MayFollow rule s h e → ⊥
  none_follows h e legal finished may =
      none_contained e (subst (λ (xs : List Entry). Contains xs e) finished ((are_the_nexts rule s h e legal).1 may))

  pub is_over : (h : List Entry) → Legal rule s h → BeginsFinished rule s h → Finished rule s h
  is_over h legal begins = by_rest begins.begins.0 begins.begins.1
    where
      by_rest : (later : List Entry) → h ≡ begins.front ++ later → Finished rule s h
      by_rest [] is = subst (Finished rule s) (sym (is ∙ append-nil begins.front)) begins.finished
      by_rest (e ∷ later) is = absurd (
          let taken : take (length begins.front) h ≡ begins.front = ap (λ (g : List Entry). take (length begins.front) g) is ∙ (take-append-le (length begins.front) begins.front (e ∷ later) (omega arith) ∙ take-length begins.front) in
          let here : slice_get h (length begins.front) ≡ Some e = ap (λ (g : List Entry). slice_get g (length begins.front)) is ∙ at_seam begins.front e later in
          let may : MayFollow rule s begins.front e = subst (λ (g : List Entry). MayFollow rule s g e) taken (legal (length begins.front) e here) in
          let front : Legal rule s begins.front = subst (Legal rule s) taken (legal_take rule s h (length begins.front) legal) in
          none_follows begins.front e front begins.finished may)

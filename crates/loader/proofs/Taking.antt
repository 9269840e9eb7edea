-- A piece that is taken of the wire after the head.
use Rattle.std.proofs.Common.{◌≡◌, ℕ, ◌+◌, false, List, [], ◌∷◌, ◌++◌, length, Some, inr, sym, ap, subst, ◌∙◌, append-nil, length-append, arith}
use Rattle.std.proofs.lemmas.List.{flat_map_more}
use Rattle.script_model.specs.declared.verdict.Verdict.{Verdict}
use Rattle.script_model.specs.declared.verdict.Verdict.TheVariants.{Allow}
use Rattle.script_model.proofs.Rows.{verdict_stays}
use Rattle.read_verdict.specs.Cases.{Case, verdict_on}
use Rattle.read_verdict.specs.ClearedData.{ClearedData}
use Rattle.read_verdict.specs.declared.part.Part.{Part}
use Rattle.read_verdict.specs.declared.step.Step.TheVariants.{Piece}
use Rattle.loader.specs.Loads.{HasLoaded, IsLeave, bytes_of, taken}
use Rattle.loader.specs.Steps.{IsStep, IsWaiting}
use Rattle.loader.specs.declared.progress.Progress.{Progress}

-- a verdict that is settled stays where one more piece is taken
settled_more : (case : Case) (pieces : List (List ℕ)) (piece : List ℕ) (v : Verdict) → verdict_on case (bytes_of pieces) false ≡ Some v → verdict_on case (bytes_of (pieces ++ piece ∷ [])) false ≡ Some v
settled_more case pieces piece v settled =
    ap (λ bytes. verdict_on case bytes false) (sym (flat_map_more (λ p. p) [] pieces piece))
    ∙ verdict_stays case.policy case.rules case.origin case.chain case.mode case.head (bytes_of pieces) piece false v settled

-- what the lists before and after the step say
record Passes (old new : Progress) : Type 0 where
  none : old.held.items ≡ []
  still : new.held.items ≡ []
  going : old.ended ≡ false
  on : new.ended ≡ false

module _ (out : List (List ℕ)) (old new : Progress) (piece : List ℕ) (passes : Passes old new) where
  next_taken : taken new (out ++ piece ∷ []) ≡ taken old out ++ piece ∷ []
  next_taken =
      ap (λ pieces. (out ++ piece ∷ []) ++ pieces) passes.still ∙ append-nil (out ++ piece ∷ [])
      ∙ ap (λ pieces. pieces ++ piece ∷ []) (sym (ap (λ pieces. out ++ pieces) passes.none ∙ append-nil out))

  next_leave : (case : Case) (cleared : ClearedData) → IsLeave old case out cleared → IsLeave new case (out ++ piece ∷ []) cleared
  next_leave case cleared leave =
      let before : verdict_on case (bytes_of (taken old out)) false ≡ Some (Allow cleared.rule) =
      subst (λ e. verdict_on case (bytes_of (taken old out)) e ≡ Some (Allow cleared.rule)) passes.going leave.verdict in
      record {
        request = leave.request;
        verdict =
            ap (λ pieces. verdict_on case (bytes_of pieces) new.ended) next_taken
            ∙ ap (λ e. verdict_on case (bytes_of (taken old out ++ piece ∷ [])) e) passes.on
            ∙ settled_more case (taken old out) piece (Allow cleared.rule) before;
      }

-- a piece came, and was handed out
module _ (old new : Progress) (piece : List ℕ) (cleared : ClearedData) (waiting : IsWaiting old) (headed : old.cleared ≡ Some cleared) (held : new.held.items ≡ old.held.items) (handed : new.handed ≡ old.handed + 1) (same : new.cleared ≡ old.cleared) (ended : new.ended ≡ old.ended) where
  passes : Passes old new
  passes =
      let none = waiting.after cleared headed in
      record { none = none; still = held ∙ none; going = waiting.open_end; on = ended ∙ waiting.open_end }

  leave : (case : Case) (out : List (List ℕ)) → HasLoaded old case out → IsLeave new case (out ++ piece ∷ []) cleared
  leave case out loaded = next_leave out old new piece passes case cleared (loaded.after cleared headed)

  goes_on : (case : Case) (out : List (List ℕ)) → HasLoaded old case out → HasLoaded new case (out ++ piece ∷ [])
  goes_on case out loaded = record {
    handed = omega (arith, loaded.handed, length-append out (piece ∷ []));
    before = λ none. absurd (cc (same, headed, none));
    after = λ other is.
        let one : cleared ≡ other = cc (same, headed, is) in
        subst (λ (c : ClearedData). IsLeave new case (out ++ piece ∷ []) c) one (leave case out loaded);
  }

  step : IsStep old new (piece ∷ []) (Piece (record { index = old.handed; bytes = piece; cleared = cleared }))
  step = record {
    says = λ case out loaded.
        (headed, same ∙ headed, loaded.handed, inr (passes.none, passes.still), leave case out loaded);
    goes_on = λ case out loaded on. goes_on case out loaded;
    taken_by = λ out. next_taken out old new piece passes;
    few = omega (arith, ap (λ pieces. length {A = List ℕ} pieces) held);
    alive = λ is. cc;
  }

  pub next_step : (part : Part) → part ≡ record { index = old.handed; bytes = piece; cleared = cleared } → IsStep old new (piece ∷ []) (Piece part)
  next_step part is = subst (λ (p : Part). IsStep old new (piece ∷ []) (Piece p)) (sym is) step

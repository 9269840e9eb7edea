-- What a step says of the whole response, from what it says of the pieces that were taken.
use Rattle.std.proofs.Common.{ap, append-nil, refl, sym, ◌∙◌}
use Rattle.std.specs.Prelude.{◌≡◌, ◌++◌, ◌∷◌, [], Bool, List, None, Option, Some, false, is_some, length, not, slice_get, true, ℕ}
use Rattle.std.proofs.lemmas.List.Concat.{flat_map-append}
use Rattle.script_model.proofs.Rows.{verdict_stays}
use Rattle.script_model.specs.declared.verdict.Verdict.{Verdict}
use Rattle.script_model.specs.declared.verdict.Verdict.TheVariants.{Allow, Block}
use Rattle.read_verdict.specs.Cases.{Case, verdict_on}
use Rattle.read_verdict.specs.ClearedData.{ClearedData}
use Rattle.read_verdict.specs.declared.step.Step.{Step}
use Rattle.read_verdict.specs.declared.step.Step.TheVariants.{Held, Head, Piece, Whole, Blocked, Fault, Gone}
use Rattle.loader.specs.Loads.{IsWireOf, bytes_of, taken}
use Rattle.loader.specs.Steps.{GoesOn}
use Rattle.loader.specs.Whole.{IsStepOver, Moment, SaysOfWhole, StepsSayOfWhole, headed_after, is_headed}
use Rattle.loader.specs.declared.progress.Progress.{Progress}

some_is : {A : Type 0} (o : Option A) (x : A) → o ≡ Some x → is_some o ≡ true
some_is None x is = absurd (cc)
some_is (Some y) x is = refl

none_is : {A : Type 0} (o : Option A) → o ≡ None → is_some o ≡ false
none_is None is = refl
none_is (Some x) is = absurd (cc)

to_none : {A : Type 0} (o : Option A) → is_some o ≡ false → o ≡ None
to_none None is = refl
to_none (Some x) is = absurd (cc)

-- a verdict that is settled on what was taken is that on the whole
settled_on : (case : Case) (some rest : List (List ℕ)) (ended fails : Bool) (v : Verdict) → (ended ≡ true → (rest ≡ []) × (fails ≡ false))
    → verdict_on case (bytes_of some) ended ≡ Some v → verdict_on case (bytes_of (some ++ rest)) (not fails) ≡ Some v
settled_on case some rest true fails v over settled =
    ap (λ pieces. verdict_on case (bytes_of pieces) (not fails)) (ap (λ r. some ++ r) (over refl).0 ∙ append-nil some)
    ∙ ap (λ f. verdict_on case (bytes_of some) (not f)) (over refl).1 ∙ settled
settled_on case some rest false fails v over settled =
    ap (λ bytes. verdict_on case bytes (not fails)) (flat_map-append (λ (p : List ℕ). p) some rest)
    ∙ verdict_stays case.policy case.rules case.origin case.chain case.mode case.head (bytes_of some) (bytes_of rest) (not fails) v settled

-- the piece behind those that were handed out
at_seam : (xs ys zs : List (List ℕ)) (b : List ℕ) → slice_get (((xs ++ b ∷ []) ++ ys) ++ zs) (length xs) ≡ Some b
at_seam [] ys zs b = refl
at_seam (x ∷ xs) ys zs b = at_seam xs ys zs b

module _ (m : Moment) (old new : Progress) (before left : List (List ℕ)) where
  -- what was taken of a wire of which nothing is left
  all_taken : (out : List (List ℕ)) → IsWireOf new out (Some left) m.fails m.all → new.held.items ≡ [] → left ≡ [] → out ≡ m.all
  all_taken out wire none over =
      sym (ap (λ rest. taken new out ++ rest) over ∙ append-nil (taken new out) ∙ ap (λ held. out ++ held) none ∙ append-nil out) ∙ wire.pieces

  whole_verdict : (out : List (List ℕ)) (v : Verdict) → IsWireOf new out (Some left) m.fails m.all → verdict_on m.case (bytes_of (taken new out)) new.ended ≡ Some v
      → verdict_on m.case (bytes_of m.all) (not m.fails) ≡ Some v
  whole_verdict out v wire settled =
      ap (λ pieces. verdict_on m.case (bytes_of pieces) (not m.fails)) (sym wire.pieces)
      ∙ settled_on m.case (taken new out) left new.ended m.fails v wire.end settled

  unheaded : is_headed old ≡ m.headed → old.cleared ≡ None → m.headed ≡ false
  unheaded headed is = sym headed ∙ none_is old.cleared is

  headed_by : (cleared : ClearedData) → is_headed old ≡ m.headed → old.cleared ≡ Some cleared → m.headed ≡ true
  headed_by cleared headed is = sym headed ∙ some_is old.cleared cleared is

  -- at a fault without a head, all of the pieces settle nothing
  nothing_settled : IsWireOf new m.out (Some left) m.fails m.all → left ≡ [] → m.fails ≡ true → verdict_on m.case (bytes_of (taken new m.out)) new.ended ≡ None
      → verdict_on m.case (bytes_of m.all) false ≡ None
  nothing_settled wire over fails none = by_end new.ended refl
    where
      all : taken new m.out ≡ m.all
      all = sym (ap (λ rest. taken new m.out ++ rest) over ∙ append-nil (taken new m.out)) ∙ wire.pieces

      by_end : (ended : Bool) → new.ended ≡ ended → verdict_on m.case (bytes_of m.all) false ≡ None
      by_end true is = absurd (let both : true ≡ false = sym fails ∙ (wire.end is).1 in cc)
      by_end false is =
          ap (λ pieces. verdict_on m.case (bytes_of pieces) false) (sym all)
          ∙ ap (λ e. verdict_on m.case (bytes_of (taken new m.out)) e) (sym is) ∙ none

  says : (step : Step) → IsStepOver m old new before left step → SaysOfWhole m step
  says Held over = unheaded over.headed over.says.2
  says (Head cleared) over =
      (unheaded over.headed over.says.0, over.says.2.request, whole_verdict m.out (Allow cleared.rule) over.wire over.says.2.verdict)
  says (Piece part) over = (
    headed_by part.cleared over.headed over.says.0,
    over.says.4.request,
    over.says.2,
    ap (λ pieces. slice_get pieces (length m.out)) (sym over.wire.pieces) ∙ at_seam m.out new.held.items left part.bytes,
  )
  says Whole over =
      let end = over.wire.end over.says.2 in
      (sym over.headed ∙ over.says.0, all_taken m.out over.wire over.says.1 end.0, end.1)
  says (Blocked rule) over = (unheaded over.headed over.says.0, whole_verdict m.out (Block rule) over.wire over.says.1)
  says Fault over =
      let end = over.used_up refl in
      let headed = over.headed in (
        end.1,
        (λ is. all_taken m.out over.wire (over.says.0 (headed ∙ is)) end.0),
        (λ is. nothing_settled over.wire end.0 end.1 (over.says.1 (to_none old.cleared (headed ∙ is)))),
      )
  says Gone over = tt

  headed_next : (step : Step) → IsStepOver m old new before left step → GoesOn step → is_headed new ≡ headed_after m.headed step
  headed_next Held over on = none_is new.cleared over.says.3 ∙ sym (unheaded over.headed over.says.2)
  headed_next (Head cleared) over on = some_is new.cleared cleared over.says.1
  headed_next (Piece part) over on = some_is new.cleared part.cleared over.says.1 ∙ sym (headed_by part.cleared over.headed over.says.0)
  headed_next Whole over on = absurd on
  headed_next (Blocked rule) over on = absurd on
  headed_next Fault over on = absurd on
  headed_next Gone over on = absurd on

pub steps_say_of_whole : StepsSayOfWhole
steps_say_of_whole m old new before left step over = (says m old new before left step over, headed_next m old new before left step over)

-- The walk back to where an outcome could last be added, and whether a history is finished at which no task is ready or out.
use Rattle.std.proofs.Common.{◌∙◌, ap, arith, refl, subst, sym, inl, inr}
use Rattle.std.proofs.Math.Seq.{take-length}
use Rattle.std.specs.Prelude.{◌≡◌, ◌+◌, ◌<◌, ◌≤◌, ◌∷◌, [], Bool, Contains, List, None, Option, Some, false, is_some, length, slice_get, take, true, ℕ}
use Rattle.history_entry.specs.declared.entry.Entry.{Entry}
use Rattle.script_model.specs.ScriptData.{ScriptData}
use Rattle.service_rule.specs.Services.{ServiceRule}
use Rattle.std.proofs.lemmas.Bool.{cases_lt}
use Rattle.history_steps.proofs.Induction.{legal_take}
use Rattle.history_steps.proofs.Orders.{contains_at}
use Rattle.history_steps.proofs.TheNexts.{are_the_nexts}
use Rattle.history_steps.specs.MayFollow.{MayFollow}
use Rattle.history_steps.specs.Nexts.{nexts}
use Rattle.history_steps.specs.Run.{Finished, Legal}
use Rattle.work_queue.specs.Work.{is_out}
use Rattle.work_queue.specs.declared.task.TaskKey.{TaskKey}
use Rattle.browser_tasks.proofs.Below.{key_of_next}
use Rattle.browser_tasks.specs.Outcomes.{Answers, AnswersWell, CanFollow, CannotFollow, IsOutcome}
use Rattle.browser_tasks.specs.Readiness.{IsReady, NoneReady}
use Rattle.browser_tasks.specs.declared.candidate.Candidate.{Candidate}
use Rattle.browser_tasks.specs.Candidates.{entry_of}
use Rattle.browser_tasks.specs.declared.outcome.Outcome.{Outcome}
use Rattle.browser_core.specs.Applying.{IsLast}
use Rattle.browser_core.specs.Walking.{IsLastWell, NoneFrom, TellsFollowing, WasPossible}

-- whether there is a candidate tells whether one of the entries may follow
pub tells : (s : ScriptData) (h : List Entry) (outcome : Outcome) (found : Option Candidate) → AnswersWell s h outcome found → TellsFollowing s h outcome (is_some found)
tells s h outcome None answers = answers
tells s h outcome (Some candidate) answers = λ rule legal. record {
  entry = entry_of rule s h candidate;
  is_of = (answers rule legal).0;
  follows = (answers rule legal).1;
}

all_of : {X : Type 0} (xs : List X) (j : ℕ) → length xs ≤ j → j ≤ length xs → take j xs ≡ xs
all_of xs j from to =
    let same : j ≡ length xs = omega (arith, from, to) in
    ap (λ i. take i xs) same ∙ take-length xs

module _ (s : ScriptData) (h : List Entry) (outcome : Outcome) where
  -- at the end nothing may follow
  pub none_at_end : TellsFollowing s h outcome false → NoneFrom s h outcome (length h)
  none_at_end none = record {
    none = λ rule legal j from to. subst (λ g. CannotFollow rule s g outcome) (sym (all_of h j from to)) (none rule legal);
  }

  -- one place earlier
  pub none_earlier : (place next : ℕ) → place ≡ next + 1 → NoneFrom s h outcome place → TellsFollowing s (take next h) outcome false → NoneFrom s h outcome next
  none_earlier place next is later here = record { none = λ rule legal j from to. by_place rule legal j from to }
    where
      by_place : (rule : ServiceRule) → Legal rule s h → (j : ℕ) → next ≤ j → j ≤ length h → CannotFollow rule s (take j h) outcome
      by_place rule legal j from to = elim (cases_lt next j) [
        | inl above ↦ later.none rule legal j (omega (arith, above, is)) to
        | inr below ↦ (let same : j ≡ next = omega (arith, below, from) in
            subst (λ i. CannotFollow rule s (take i h) outcome) (sym same) (here rule (legal_take rule s h next legal)))
      ]

  -- here one may, and none one entry later
  pub last_here : (place next : ℕ) → place ≡ next + 1 → place ≤ length h → NoneFrom s h outcome place → TellsFollowing s (take next h) outcome true → IsLastWell s h outcome (Some next)
  last_here place next is within later here rule legal = record {
    below = omega (arith, is, within);
    could = here rule (legal_take rule s h next legal);
    no_more = later.none rule legal (next + 1) (omega (arith, is)) (omega (arith, is, within));
  }

  -- it could follow somewhere
  pub somewhere : WasPossible s h outcome → NoneFrom s h outcome 0 → ⊥
  somewhere possible none =
      let o = possible.outcome_is in
      (none.none possible.rule possible.legal o.place (omega arith) o.within).none o.could.entry o.could.is_of o.could.follows

-- where no task is ready or out no entry may follow
pub none_finishes : (rule : ServiceRule) (s : ScriptData) (h : List Entry) (out : List TaskKey) → Legal rule s h → out ≡ [] → NoneReady rule s h out → Finished rule s h
none_finishes rule s h out legal is none = by_nexts (nexts rule s h) refl
  where
    by_nexts : (xs : List Entry) → nexts rule s h ≡ xs → nexts rule s h ≡ []
    by_nexts [] same = same
    by_nexts (e ∷ xs) same =
        let here : Contains (nexts rule s h) e = contains_at (nexts rule s h) 0 e (ap (λ (ys : List Entry). slice_get ys 0) same) in
        let may : MayFollow rule s h e = (are_the_nexts rule s h e legal).0 here in
        let key = key_of_next rule s h legal e may in
        absurd (none.none key.0 (record { entry = e; is_of = key.1; follows = may; free = ap (is_out key.0) is }))

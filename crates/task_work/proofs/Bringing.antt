-- What may be brought back to a history may be to each that goes on from it.
use Rattle.std.proofs.Common.{arith, inl, inr, length-append, subst, sym, ◌∙◌}
use Rattle.std.proofs.Math.Seq.{take-length}
use Rattle.std.proofs.lemmas.Bool.{cases_lt}
use Rattle.std.specs.Prelude.{◌++◌, List, length, take, ℕ}
use Rattle.history_entry.specs.declared.entry.Entry.{Entry}
use Rattle.read_verdict.specs.declared.step.Step.{Step}
use Rattle.read_verdict.specs.declared.step.Step.TheVariants.{Blocked, Fault, Gone, Head, Held, Piece, Whole}
use Rattle.script_model.specs.ScriptData.{ScriptData}
use Rattle.service_rule.specs.Services.{ServiceRule}
use Rattle.browser_tasks.specs.Outcomes.{CanFollow, IsGoneFor, IsHostDead, IsVouched}
use Rattle.browser_tasks.specs.declared.outcome.Outcome.{Outcome}
use Rattle.browser_tasks.specs.declared.outcome.Outcome.TheVariants as outcomes
use Rattle.task_work.proofs.Prefixes.{take_all_of, take_front, take_whole}
use Rattle.task_work.specs.Laws.{JobsCanFollow, NowBringsBack, OutcomesStay}

pub now_brings_back : (rule : ServiceRule) (s : ScriptData) → NowBringsBack rule s
now_brings_back rule s h outcome could vouched = record {
  place = length h;
  within = omega arith;
  could = subst (λ g. CanFollow rule s g outcome) (sym (take-length h)) could;
  vouched = vouched;
}

dead_later : (h more : List Entry) (r i : ℕ) → IsHostDead (take i h) r → (j : ℕ) × IsHostDead (take j (h ++ more)) r
dead_later h more r i dead = elim (cases_lt i (length h)) [
  | inl below ↦ (i, subst (λ g. IsHostDead g r) (sym (take_front h more i (omega (arith, below)))) dead)
  | inr after ↦ (length h, subst (λ g. IsHostDead g r) (take_all_of h i (omega (arith, after)) ∙ sym (take_whole h more)) dead)
]

gone_later : (h more : List Entry) (r : ℕ) (step : Step) → IsGoneFor h r step → IsGoneFor (h ++ more) r step
gone_later h more r Gone gone = dead_later h more r gone.0 gone.1
gone_later h more r Held gone = tt
gone_later h more r (Head cleared) gone = tt
gone_later h more r (Piece part) gone = tt
gone_later h more r Whole gone = tt
gone_later h more r (Blocked rule) gone = tt
gone_later h more r Fault gone = tt

vouched_later : (h more : List Entry) (outcome : Outcome) → IsVouched h outcome → IsVouched (h ++ more) outcome
vouched_later h more (outcomes.Browser job) vouched = tt
vouched_later h more (outcomes.Act done) vouched = tt
vouched_later h more (outcomes.Load done) vouched = (vouched.0, gone_later h more done.request done.step vouched.1)

pub outcomes_stay : (rule : ServiceRule) (s : ScriptData) → OutcomesStay rule s
outcomes_stay rule s h more outcome is =
    let within = is.within in record {
      place = is.place;
      within = omega (arith, within, length-append h more);
      could = subst (λ g. CanFollow rule s g outcome) (sym (take_front h more is.place within)) is.could;
      vouched = vouched_later h more outcome is.vouched;
    }

pub jobs_follow : (rule : ServiceRule) (s : ScriptData) → JobsCanFollow rule s
jobs_follow rule s h job claim = record { entry = claim.entry; is_of = claim.is_of; follows = claim.follows }

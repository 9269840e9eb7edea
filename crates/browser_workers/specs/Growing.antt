-- What may be asked stays so as the history grows.
use Rattle.std.proofs.Common.{arith, inl, inr, subst, sym, ◌∙◌}
use Rattle.std.proofs.Math.Seq.{take-length}
use Rattle.std.proofs.lemmas.Bool.{cases_lt}
use Rattle.std.proofs.lemmas.List.{length-append, take-append-le, take_all}
use Rattle.std.specs.Prelude.{◌≡◌, ◌++◌, List, length, take, ℕ}
use Rattle.history_entry.specs.declared.entry.Entry.{Entry}
use Rattle.script_model.specs.ScriptData.{ScriptData}
use Rattle.service_rule.specs.Services.{ServiceRule}
use Rattle.history_steps.proofs.Induction.{legal_take}
use Rattle.history_steps.specs.Run.{Legal}
use Rattle.read_verdict.specs.declared.step.Step.{Step}
use Rattle.read_verdict.specs.declared.step.Step.TheVariants as steps
use Rattle.browser_tasks.specs.Outcomes.{CanFollow, IsGoneFor, IsHostDead, IsOutcome, IsVouched}
use Rattle.browser_tasks.specs.declared.outcome.Outcome.{Outcome}
use Rattle.browser_tasks.specs.declared.outcome.Outcome.TheVariants as outcomes
use Rattle.browser_workers.specs.Asking.{MayAsk}
use Rattle.browser_workers.specs.declared.asking.Ask.{Ask}
use Rattle.browser_workers.specs.declared.asking.Ask.TheVariants as asks

-- a beginning of a list is one of each longer list
pub begins_longer : {X : Type 0} (i : ℕ) (xs ys : List X) → (j : ℕ) × (take j (xs ++ ys) ≡ take i xs)
begins_longer i xs ys = elim (cases_lt (length xs) i) [
  | inl beyond ↦ (length xs, take-append-le (length xs) xs ys (omega arith) ∙ (take-length xs ∙ sym (take_all i xs (omega arith))))
  | inr within ↦ (i, take-append-le i xs ys (omega (arith, within)))
]

gone_grows : (h later : List Entry) (r : ℕ) (step : Step) → IsGoneFor h r step → IsGoneFor (h ++ later) r step
gone_grows h later r steps.Gone gone =
    let longer = begins_longer gone.0 h later in
    (longer.0, subst (λ (g : List Entry). IsHostDead g r) (sym longer.1) gone.1)
gone_grows h later r _ gone = tt

vouched_grows : (h later : List Entry) (outcome : Outcome) → IsVouched h outcome → IsVouched (h ++ later) outcome
vouched_grows h later (outcomes.Load done) vouched = (vouched.0, gone_grows h later done.request done.step vouched.1)
vouched_grows h later _ vouched = tt

pub outcome_grows : (rule : ServiceRule) (s : ScriptData) (h later : List Entry) (outcome : Outcome) → IsOutcome rule s h outcome → IsOutcome rule s (h ++ later) outcome
outcome_grows rule s h later outcome is = record {
  place = is.place;
  within = (let within = is.within in omega (arith, length-append h later, within));
  could = subst (λ (g : List Entry). CanFollow rule s g outcome) (sym (take-append-le is.place h later is.within)) is.could;
  vouched = vouched_grows h later outcome is.vouched;
}

-- the beginning of a legal history is legal
pub legal_begins : (rule : ServiceRule) (s : ScriptData) (h later : List Entry) → Legal rule s (h ++ later) → Legal rule s h
legal_begins rule s h later legal =
    subst (Legal rule s) (take-append-le (length h) h later (omega arith) ∙ take-length h) (legal_take rule s (h ++ later) (length h) legal)

pub ask_grows : (rule : ServiceRule) (s : ScriptData) (seen later : List Entry) (ask : Ask) → MayAsk rule s seen ask → MayAsk rule s (seen ++ later) ask
ask_grows rule s seen later (asks.Claim kind) may = tt
ask_grows rule s seen later (asks.Apply outcome) may = λ legal. outcome_grows rule s seen later outcome (may (legal_begins rule s seen later legal))

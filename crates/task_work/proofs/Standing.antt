-- A load that stands within a history, and each that goes on from it.
use Rattle.std.proofs.Common.{ap, arith, length-append, subst, sym, ◌∙◌}
use Rattle.std.proofs.Math.Seq.{take-length}
use Rattle.std.proofs.lemmas.List.{take-append-drop}
use Rattle.std.specs.Prelude.{◌≡◌, ◌++◌, ◌∷◌, [], List, drop, length, take, ℕ}
use Rattle.history_entry.specs.declared.entry.Entry.{Entry}
use Rattle.history_steps.specs.MayFollow.{MayFollow}
use Rattle.history_steps.specs.Run.{Legal}
use Rattle.read_verdict.specs.declared.step.Step.{Step}
use Rattle.read_verdict.specs.declared.step.Step.TheVariants.{Blocked, Fault, Gone, Head, Held, Piece, Whole}
use Rattle.service_rule.specs.Services.{ServiceRule}
use Rattle.browser_tasks.specs.Outcomes.{IsEntryOf, IsGoneFor}
use Rattle.task_work.proofs.Prefixes.{take_front}
use Rattle.task_work.specs.Laws.{HeldStays, LoadsGoOn, StandingStays, StepsComeBack}
use Rattle.task_work.specs.Stands.{StandsAt, script_of}
use Rattle.task_work.specs.Steps.{TellsResponse, outcome_of}

pub standing_stays : (rule : ServiceRule) → StandingStays rule
standing_stays rule h more load stands =
    let within = stands.within in record {
      place = stands.place;
      within = omega (arith, within, length-append h more);
      at = subst (λ (g : List Entry). StandsAt rule g load) (sym (take_front h more stands.place within)) stands.at;
    }

not_gone : (h : List Entry) (r : ℕ) (step : Step) → TellsResponse step → IsGoneFor h r step
not_gone h r (Head cleared) tells = tt
not_gone h r (Piece part) tells = tt
not_gone h r Whole tells = tt
not_gone h r (Blocked rule) tells = tt
not_gone h r Fault tells = tt
not_gone h r Held tells = absurd tells
not_gone h r Gone tells = absurd tells

pub steps_come_back : (rule : ServiceRule) → StepsComeBack rule
steps_come_back rule h old new step from stands tells =
    let at = from rule (take stands.place h) stands.at in record {
      place = stands.place;
      within = stands.within;
      could = at.could tells;
      vouched = (at.cleared, not_gone h old.task.request step tells);
    }

pub held_stays : (rule : ServiceRule) → HeldStays rule
held_stays rule h old new step from stands is =
    let at = from rule (take stands.place h) stands.at in record { place = stands.place; within = stands.within; at = at.held is }

pub loads_go_on : (rule : ServiceRule) → LoadsGoOn rule
loads_go_on rule h old new step e from stands legal is may more =
    let g = take stands.place h in
    let later = drop stands.place h in
    let at = from rule g stands.at in
    let whole : g ++ later ≡ h = take-append-drop stands.place h in
    let next : StandsAt rule ((g ++ later) ++ e ∷ []) new = at.goes_on later e
    (subst (λ (k : List Entry). Legal rule (script_of old) k) (sym whole) legal)
    (subst (λ (k : List Entry). IsEntryOf (script_of old) k (outcome_of old step) e) (sym whole) is)
    (subst (λ (k : List Entry). MayFollow rule (script_of old) k e) (sym whole) may) more in
    record {
      place = length (h ++ e ∷ []);
      within = omega arith;
      at = subst (λ (k : List Entry). StandsAt rule k new) (ap (λ (k : List Entry). k ++ e ∷ []) whole ∙ sym (take-length (h ++ e ∷ []))) next;
    }

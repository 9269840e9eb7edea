-- The steps of a load, as they are brought back.
use Rattle.std.proofs.Common.{arith, refl, subst, sym}
use Rattle.std.proofs.Math.Seq.{take-length}
use Rattle.std.specs.Prelude.{◌≡◌, ◌<◌, List, Bool, Err, IfOk, Ok, Result, false, length, take, true, ℕ}
use Rattle.history_entry.specs.declared.entry.Entry.{Entry}
use Rattle.script_model.specs.ScriptData.{ScriptData}
use Rattle.service_rule.specs.Services.{ServiceRule}
use Rattle.history_rules.proofs.Apart.{from_then}
use Rattle.history_rules.specs.Documents.{process_of}
use Rattle.history_rules.specs.Requests.{request_document}
use Rattle.history_laws.proofs.Bound.{started_few}
use Rattle.history_laws.proofs.Honest.{process_hosts}
use Rattle.history_steps.proofs.Locks.{hosted_started}
use Rattle.history_steps.specs.Run.{Legal}
use Rattle.policy_table.specs.Histories.{StartsWith}
use Rattle.policy_table.specs.declared.standing.Standing.TheVariants.{Dead}
use Rattle.process_standings.specs.Standings.{table_standing}
use Rattle.read_verdict.specs.declared.step.Step.{Step}
use Rattle.read_verdict.specs.declared.step.Step.TheVariants.{Blocked, Fault, Gone, Head, Held, Piece, Whole}
use Rattle.browser_tasks.specs.Outcomes.{IsOutcome, goes_on}
use Rattle.browser_core.specs.declared.applying.Applied.TheVariants.{Entry as Added}
use Rattle.browser_tasks.specs.declared.outcome.Outcome.{Outcome}
use Rattle.task_work.specs.Laws.{GoneComesBack, LoadsGoOn, StandingStays, StepsComeBack}
use Rattle.task_work.specs.Stands.{StandsWithin, script_of}
use Rattle.task_work.specs.Steps.{StepsFrom, outcome_of}
use Rattle.task_work.specs.declared.load.TaskLoad.{TaskLoad}
use Rattle.browser_workers.specs.Asking.{IsBrought, MayBring}
use Rattle.browser_workers.specs.Loads.{GoesOnBehind, is_held}

-- what a load stands within, a longer history begins with
pub stands_later : (rule : ServiceRule) → StandingStays rule → (seen after : List Entry) (load : TaskLoad) → StartsWith after seen → StandsWithin rule seen load → StandsWithin rule after load
stands_later rule stays seen after load begins within =
    subst (λ (h : List Entry). StandsWithin rule h load) (sym begins.1) (stays seen begins.0 load within)

-- its process has a row in the table
pub process_small : (rule : ServiceRule) (h : List Entry) (load : TaskLoad) → StandsWithin rule h load → load.task.process < 1024
process_small rule h load within =
    let g = take within.place h in
    let t = from_then (process_of g) (request_document g load.task.request) load.task.process within.at.holds.process in
    omega (arith, hosted_started rule (script_of load) g within.at.legal load.task.process t.0 (process_hosts g load.task.process t.0 t.2), started_few rule (script_of load) g within.at.legal)

module _ (rule : ServiceRule) (seen : List Entry) (old new : TaskLoad) (from_steps : StepsComeBack rule) (from_gone : GoneComesBack rule) (within : StandsWithin rule seen old) where
  -- a step that holds no piece may be brought back where the load stood
  step_comes : (step : Step) → StepsFrom old new step → is_held step ≡ false → (step ≡ Gone → table_standing seen old.task.process ≡ Dead) → Legal rule (script_of old) seen
      → IsOutcome rule (script_of old) seen (outcome_of old step)
  step_comes (Head cleared) from none gone legal = from_steps seen old new (Head cleared) from within tt
  step_comes (Piece part) from none gone legal = from_steps seen old new (Piece part) from within tt
  step_comes Whole from none gone legal = from_steps seen old new Whole from within tt
  step_comes (Blocked why) from none gone legal = from_steps seen old new (Blocked why) from within tt
  step_comes Fault from none gone legal = from_steps seen old new Fault from within tt
  step_comes Held from none gone legal = absurd (cc)
  step_comes Gone from none gone legal = from_gone seen old (record {
    legal = legal;
    stands = within;
    place = length seen;
    dead = subst (λ (h : List Entry). table_standing h old.task.process ≡ Dead) (sym (take-length seen)) (gone refl);
  })

  pub step_may : (s : ScriptData) (step : Step) → script_of old ≡ s → StepsFrom old new step → is_held step ≡ false → (step ≡ Gone → table_standing seen old.task.process ≡ Dead)
      → MayBring rule s seen (outcome_of old step)
  step_may s step is from none gone = λ legal.
      subst (λ (t : ScriptData). IsOutcome rule t seen (outcome_of old step)) is
      (step_comes step from none gone (subst (λ (t : ScriptData). Legal rule t seen) (sym is) legal))

-- behind an entry that was added the load stands
pub stands_behind : (rule : ServiceRule) (s : ScriptData) → StandingStays rule → LoadsGoOn rule → (seen after : List Entry) (old new : TaskLoad) (step : Step) → script_of old ≡ s → StepsFrom old new step
    → StandsWithin rule seen old → GoesOnBehind rule s (outcome_of old step) seen after → StandsWithin rule after new
stands_behind rule s stays on seen after old new step is from within behind =
    let b : GoesOnBehind rule (script_of old) (outcome_of old step) seen after = subst (λ (t : ScriptData). GoesOnBehind rule t (outcome_of old step) seen after) (sym is) behind in
    subst (λ (h : List Entry). StandsWithin rule h new) (sym b.added)
    (on b.found old new step b.entry from (stands_later rule stays seen b.found old b.begins within) b.legal b.is_of b.follows b.more)

-- an outcome that was brought back and added, and has more behind it
pub goes_on_behind : (rule : ServiceRule) (s : ScriptData) (outcome : Outcome) (seen after : List Entry) (place : ℕ) → goes_on outcome ≡ true → IsBrought rule s outcome seen after (Added place)
    → GoesOnBehind rule s outcome seen after
goes_on_behind rule s outcome seen after place more brought = record {
  found = brought.found;
  begins = brought.begins;
  legal = brought.brings.legal_before;
  entry = brought.brings.extends.entry;
  is_of = brought.brings.extends.is_of;
  follows = brought.brings.extends.follows;
  added = brought.brings.extends.added;
  more = more;
}

-- what an answer says, where it is one
pub more_map : {F : Type 0} (r : Result Bool F) (P Q : Bool → Type 0) → ((more : Bool) → P more → Q more) → IfOk r P → IfOk r Q
more_map (Ok more) P Q step is = step more is
more_map (Err e) P Q step is = tt

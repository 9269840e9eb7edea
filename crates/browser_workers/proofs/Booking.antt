-- What the calls of a core tell the table.
use Rattle.std.proofs.Common.{ap, inl, inr, subst, sym}
use Rattle.std.specs.Prelude.{◌≡◌, ◌⊎◌, List, None, Option, ℕ}
use Rattle.history_entry.specs.declared.entry.Entry.{Entry}
use Rattle.script_model.specs.ScriptData.{ScriptData}
use Rattle.service_rule.specs.Services.{ServiceRule}
use Rattle.history_steps.specs.Run.{Finished, Legal}
use Rattle.policy_table.specs.Changes.{Changes}
use Rattle.policy_table.specs.Histories.{AddsOne}
use Rattle.policy_table.specs.declared.standing.Standing.{Standing}
use Rattle.process_standings.specs.Standings.{table_standing}
use Rattle.work_queue.specs.Keys.{key_of}
use Rattle.work_queue.specs.declared.task.Kind.{Kind}
use Rattle.work_queue.specs.declared.tasks.Claim.{Claim}
use Rattle.work_queue.specs.declared.tasks.Claim.TheVariants.{None as NoTask, Task as OneTask}
use Rattle.browser_tasks.specs.Readiness.{IsReady}
use Rattle.browser_tasks.specs.TaskData.{HoldsFacts, IsLegal}
use Rattle.browser_tasks.specs.declared.outcome.Outcome.{Outcome}
use Rattle.browser_core.specs.Applying.{Extends}
use Rattle.browser_core.specs.Claiming as core
use Rattle.browser_core.specs.Cores.{CoreData}
use Rattle.browser_core.specs.declared.applying.Applied.{Applied}
use Rattle.browser_core.specs.declared.applying.Applied.TheVariants.{Entry as Added, Stale}
use Rattle.browser_workers.specs.Asking.{Claims}
use Rattle.browser_workers.specs.Booking.{IsChangeOf, IsKnown}

-- what a core tells that is asked for a task
pub claimed : (rule : ServiceRule) (s : ScriptData) (kind : Kind) (old new : CoreData) (claim : Claim) → old.script ≡ s → Legal rule s old.entries → IsKnown s old.entries claim
    → core.Claims rule kind old new claim → Claims rule s old.entries claim
claimed rule s kind old new (OneTask task) is legal known hands =
    known rule old.out legal
    (subst (λ (t : ScriptData). HoldsFacts t old.entries task) is hands.holds)
    (subst (λ (t : ScriptData). IsReady rule t old.entries old.out (key_of task)) is hands.chosen.ready)
claimed rule s kind old new (NoTask count) is legal known none = λ zero. subst (λ (t : ScriptData). Finished rule t old.entries) is (none.over zero)

-- it leaves the history
pub same_entries : (rule : ServiceRule) (kind : Kind) (old new : CoreData) (claim : Claim) → core.Claims rule kind old new claim → new.entries ≡ old.entries
same_entries rule kind old new (OneTask task) hands = hands.entries
same_entries rule kind old new (NoTask count) none = ap (λ (d : CoreData). d.entries) none.same

module _ (rule : ServiceRule) (s : ScriptData) (outcome : Outcome) (old new : List Entry) where
  -- an outcome that was applied adds one entry, or none
  pub adds : (applied : Applied) → Extends rule s outcome old new applied → (new ≡ old) ⊎ AddsOne old new
  adds (Added place) extends = inr (extends.entry, extends.added)
  adds (Stale place) late = inl late.same

  -- and changes one standing, or none
  pub changes : (applied : Applied) (change : Option (ℕ × Standing)) → Extends rule s outcome old new applied → IsChangeOf new applied change
      → Changes (table_standing old) (table_standing new) change
  changes (Added place) change extends is = is old extends.entry extends.added
  changes (Stale place) change late none =
      subst (Changes (table_standing old) (table_standing new)) (sym none) (λ process. ap (λ (h : List Entry). table_standing h process) late.same)

-- where nothing was added no standing changed
pub no_change : (old new : List Entry) (change : Option (ℕ × Standing)) → new ≡ old → change ≡ None → Changes (table_standing old) (table_standing new) change
no_change old new change same none =
    subst (Changes (table_standing old) (table_standing new)) (sym none) (λ process. ap (λ (h : List Entry). table_standing h process) same)

pub is_legal : (rule : ServiceRule) (s t : ScriptData) (h k : List Entry) → s ≡ t → h ≡ k → Legal rule s h → IsLegal t k
is_legal rule s t h k script same legal = record {
  rule = rule;
  legal = subst (λ (g : List Entry). Legal rule t g) same (subst (λ (u : ScriptData). Legal rule u h) script legal);
}

-- What a worker gets that asks for a task.
use Rattle.std.proofs.Common.{◌∙◌, ap, refl, subst, sym}
use Rattle.std.specs.Prelude.{◌≡◌, ◌∷◌, [], Err, IfOk, List, None, Ok, Option, Result, Some, length, ℕ}
use Rattle.history_entry.specs.declared.entry.Entry.{Entry}
use Rattle.script_model.specs.ScriptData.{ScriptData}
use Rattle.service_rule.specs.Services.{ServiceRule}
use Rattle.history_steps.specs.Run.{Finished, Legal}
use Rattle.work_queue.specs.declared.task.Kind.{Kind}
use Rattle.work_queue.specs.declared.task.TaskKey.{TaskKey}
use Rattle.work_queue.specs.declared.tasks.Claim.{Claim}
use Rattle.work_queue.specs.declared.tasks.Claim.TheVariants.{None as NoTask, Task as OneTask}
use Rattle.browser_core.proofs.Walks.{none_finishes}
use Rattle.browser_core.specs.Claiming.{Claims, HandsOut, HasNone}
use Rattle.browser_core.specs.Cores.{CoreData}
use Rattle.browser_core.specs.Handing.{ClaimsWell}

-- what holds of what was answered, one fact after another
pub ok_map : {A E : Type 0} {P Q : A → Type 0} (r : Result A E) → ((x : A) → P x → Q x) → IfOk r P → IfOk r Q
ok_map (Ok x) all is = all x is
ok_map (Err e) all is = is

nothing_long : {X : Type 0} (xs : List X) → length xs ≡ 0 → xs ≡ []
nothing_long [] is = refl
nothing_long (x ∷ xs) is = absurd (cc)

-- the answer of a core, from that of its tasks
pub claimed : (rule : ServiceRule) (s : ScriptData) (h entries : List Entry) (kind : Kind) (out new : List TaskKey) → entries ≡ h → Legal rule s h
    → (claim : Claim) → ClaimsWell s entries kind out new claim
    → Claims rule kind (record { script = s; entries = h; out = out }) (record { script = s; entries = h; out = new }) claim
claimed rule s h entries kind out new same legal (OneTask task) well =
    let a = subst (λ (g : List Entry). ClaimsWell s g kind out new (OneTask task)) same well in
    record { chosen = a.0 rule legal; holds = a.1; out = a.2; entries = refl }
claimed rule s h entries kind out new same legal (NoTask count) well =
    let a = subst (λ (g : List Entry). ClaimsWell s g kind out new (NoTask count)) same well in
    let none = a.0 rule legal in
    record {
      none = none;
      told = a.1;
      same = ap (λ (o : List TaskKey). record { script = s; entries = h; out = o }) a.2;
      over = λ zero. none_finishes rule s h out legal (nothing_long out (sym a.1 ∙ zero)) none;
    }

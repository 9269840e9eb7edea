-- Of a task: something is found of its object exactly where an entry of it may follow.
use Rattle.std.proofs.Common.{◌∙◌, ap, refl, subst, sym, inl, inr}
use Rattle.std.specs.Prelude.{◌≡◌, ◌⊎◌, ◌||◌, Bool, List, None, Option, Some, false, is_some, not, option_map, true, ℕ}
use Rattle.history_entry.specs.declared.entry.Entry.{Entry}
use Rattle.history_entry.specs.declared.entry.Entry.TheVariants.{Commit, Crash, End, Exit, Head, Hop, Local, NavEnd, Opened, Order, Piece, Said, Warm}
use Rattle.script_model.specs.ScriptData.{ScriptData}
use Rattle.service_rule.specs.Services.{ServiceRule}
use Rattle.history_rules.proofs.Apart.{and_both, and_left, and_right, from_is_some, from_map, not_true, or_cases, or_left, or_right}
use Rattle.history_steps.proofs.TheNexts.{from_local, from_said}
use Rattle.history_steps.specs.MayFollow.{MayFollow, local_next, next_of, said_next}
use Rattle.history_steps.specs.Run.{Legal}
use Rattle.history.proofs.Sayings.{said_is_judged}
use Rattle.history.specs.Sayings.{judged, saying_next}
use Rattle.work_queue.specs.declared.task.TaskKey.{TaskKey}
use Rattle.work_queue.specs.declared.task.TaskKey.TheVariants as keys
use Rattle.browser_tasks.proofs.Acts.{saying_document}
use Rattle.browser_tasks.proofs.Forms.{local_form}
use Rattle.browser_tasks.proofs.Hosting.{crash_fine, crash_here}
use Rattle.browser_tasks.proofs.Jobs.{job_fine, job_none}
use Rattle.browser_tasks.proofs.Loads.{delivery_fine, delivery_none}
use Rattle.browser_tasks.specs.Objects.{IsDelivery, IsOfKey, delivery_next, document_crash, has_next, is_taken_at_once, job_next}

-- an entry of the object of a task that may follow
pub record IsNextOf (rule : ServiceRule) (s : ScriptData) (h : List Entry) (key : TaskKey) : Type 0 where
  pub entry : Entry
  pub is_of : IsOfKey s h key entry
  pub follows : MayFollow rule s h entry

some_of : {A : Type 0} (o : Option A) (x : A) → o ≡ Some x → is_some o ≡ true
some_of None x is = absurd (cc)
some_of (Some y) x is = refl

none_of : {A : Type 0} (o : Option A) → (o ≡ None → ⊥) → is_some o ≡ true
none_of None never = absurd (never refl)
none_of (Some y) never = refl

module _ (rule : ServiceRule) (s : ScriptData) (h : List Entry) (legal : Legal rule s h) where
  said_of_document : (d : ℕ) → is_some (saying_next s h d) ≡ true → IsNextOf rule s h (keys.Act d)
  said_of_document d some =
      let a = from_is_some (saying_next s h d) some in
      let next : said_next rule s h d ≡ Some (judged rule s h a.0) = said_is_judged rule s h d ∙ ap (option_map (judged rule s h)) a.1 in
      record { entry = judged rule s h a.0; is_of = saying_document s h d a.0 a.1; follows = from_said rule s h d (judged rule s h a.0) next }

  local_of_document : (d : ℕ) → is_some (local_next s h d) ≡ true → IsNextOf rule s h (keys.Act d)
  local_of_document d some =
      let a = from_is_some (local_next s h d) some in
      record { entry = a.0; is_of = local_form s h (IsOfKey s h (keys.Act d)) d (λ p k what. refl) a.0 a.1; follows = from_local rule s h d a.0 a.1 }

  crash_of_document : (d : ℕ) → is_some (document_crash s h d) ≡ true → IsNextOf rule s h (keys.Act d)
  crash_of_document d some =
      let a = from_is_some (document_crash s h d) some in
      let b = crash_fine rule s h legal d a.0 a.1 in
      record { entry = a.0; is_of = subst (IsOfKey s h (keys.Act d)) b.1 b.2; follows = b.3 }

  -- something is found, so an entry may follow
  pub next_from : (key : TaskKey) → has_next s h key ≡ true → IsNextOf rule s h key
  unfolding has_next
  next_from (keys.Browser job) some =
      let a = from_is_some (job_next s h job) some in
      let b = job_fine rule s h job a.0 a.1 in
      record { entry = a.0; is_of = b.0; follows = b.1 }
  next_from (keys.Act d) some = elim (or_cases (is_some (saying_next s h d) || is_some (local_next s h d)) (is_some (document_crash s h d)) some) [
    | inl acts ↦ elim (or_cases (is_some (saying_next s h d)) (is_some (local_next s h d)) acts) [
      | inl says ↦ said_of_document d says
      | inr does ↦ local_of_document d does
    ]
    | inr crashes ↦ crash_of_document d crashes
  ]
  next_from (keys.Load r) some =
      let open_yet : is_taken_at_once s h r ≡ false = not_true _ (and_left _ _ some) in
      let a = from_is_some (delivery_next s h r) (and_right _ _ some) in
      let b = delivery_fine rule s h r a.0 a.1 in
      record { entry = a.0; is_of = (b.0, open_yet); follows = b.1 }

  said_is_some : (d : ℕ) (e : Entry) → said_next rule s h d ≡ Some e → is_some (saying_next s h d) ≡ true
  said_is_some d e may =
      let a = from_map (judged rule s h) (saying_next s h d) e (sym (said_is_judged rule s h d) ∙ may) in
      some_of (saying_next s h d) a.0 a.1

  act_to : (d : ℕ) (e : Entry) → IsOfKey s h (keys.Act d) e → MayFollow rule s h e → (is_some (saying_next s h d) || is_some (local_next s h d) || is_some (document_crash s h d)) ≡ true
  unfolding next_of
  act_to d (Said p document k message reply) of may =
      or_left _ _ (or_left _ _ (said_is_some d (Said p document k message reply) (ap (said_next rule s h) (sym of) ∙ may)))
  act_to d (Local p document k what) of may =
      or_left _ _ (or_right _ _ (some_of (local_next s h d) (Local p document k what) (ap (local_next s h) (sym of) ∙ may)))
  act_to d (Crash p) of may = let x = crash_here s h d p of in or_right _ _ (some_of (document_crash s h d) x.0 x.1)
  act_to d e of may = absurd of

  -- an entry may follow, so something is found
  pub next_to : (key : TaskKey) (e : Entry) → IsOfKey s h key e → MayFollow rule s h e → has_next s h key ≡ true
  unfolding has_next
  next_to (keys.Browser job) e of may = none_of (job_next s h job) (λ none. job_none rule s h job none e of may)
  next_to (keys.Act d) e of may = act_to d e of may
  next_to (keys.Load r) e of may = and_both _ _ (ap not of.1) (none_of (delivery_next s h r) (λ none. delivery_none rule s h r none e of.0 may))

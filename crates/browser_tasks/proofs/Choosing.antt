-- The first ready task is a ready one, and where none is found none is ready.
use Rattle.std.proofs.Common.{◌∙◌, ap, refl, subst, sym, inl, inr}
use Rattle.std.specs.Prelude.{◌≡◌, ◌⊎◌, ◌<◌, ◌∷◌, [], Bool, List, None, Option, Some, cond, false, filter_map, is_some, not, slice_get, true, ℕ}
use Rattle.std.proofs.Common.{arith}
use Rattle.std.specs.List.{range_with_len}
use Rattle.std.specs.Option.{option_or}
use Rattle.history_entry.specs.declared.entry.Entry.{Entry}
use Rattle.script_model.specs.ScriptData.{ScriptData}
use Rattle.service_rule.specs.Services.{ServiceRule}
use Rattle.history_rules.proofs.Apart.{and_both, and_left, and_right, from_cond, from_or, not_true, true_or_false}
use Rattle.history_steps.proofs.Frames.{at_number}
use Rattle.history_steps.proofs.Locks.{filter_map_found, filter_map_has}
use Rattle.history_steps.specs.Run.{Legal}
use Rattle.work_queue.specs.Work.{is_out}
use Rattle.work_queue.specs.declared.task.BrowserJob.{BrowserJob}
use Rattle.work_queue.specs.declared.task.BrowserJob.TheVariants as jobs
use Rattle.work_queue.specs.declared.task.Kind.{Kind}
use Rattle.work_queue.specs.declared.task.Kind.TheVariants as kinds
use Rattle.work_queue.specs.declared.task.TaskKey.{TaskKey}
use Rattle.work_queue.specs.declared.task.TaskKey.TheVariants as keys
use Rattle.browser_tasks.proofs.Below.{key_below}
use Rattle.browser_tasks.proofs.Jobs.{or_none}
use Rattle.browser_tasks.proofs.KeyNexts.{next_from, next_to}
use Rattle.browser_tasks.specs.Objects.{IsOfKey, has_next}
use Rattle.browser_tasks.specs.Readiness.{Chooses, ChoosesWell, IsChosen, IsReady, NoneReady, NoneReadyOf, family_size, first_in, first_job, first_of_kind, first_ready, is_of_kind, is_ready, key_in, ready_in}
use Rattle.browser_tasks.specs.declared.ready.Family.{Family}
use Rattle.browser_tasks.specs.declared.ready.Family.TheVariants.{Acts, Commits, Exits, Loads, Navs, Opens, Requests, Warms}

nothing_there : {A : Type 0} (xs : List A) (j : ℕ) (x : A) → slice_get xs 0 ≡ None → slice_get xs j ≡ Some x → ⊥
nothing_there [] j x none is = absurd (cc)
nothing_there (y ∷ xs) j x none is = absurd (cc)

not_both : (b : Bool) → b ≡ true → b ≡ false → ⊥
not_both true t f = absurd (cc)
not_both false t f = absurd (cc)

some_key : (x y : TaskKey) → Some x ≡ Some y → x ≡ y
some_key x y is = cc

module _ (s : ScriptData) (h : List Entry) (out : List TaskKey) where
  -- the first of a family is ready, and one of it
  family_some : (f : Family) (key : TaskKey) → first_in s h out f ≡ Some key → (n : ℕ) × (key_in f n ≡ key) × (is_ready s h out key ≡ true)
  unfolding first_in
  family_some f key is =
      let m = filter_map_found (ready_in s h out f) (range_with_len 0 (family_size s h f)) 0 key is in
      let a = from_cond (is_ready s h out (key_in f m.item)) (Some (key_in f m.item)) key m.gives in
      let same : key_in f m.item ≡ key = some_key (key_in f m.item) key a.1 in
      (m.item, same, ap (is_ready s h out) (sym same) ∙ a.0)

  -- where there is none, none of the family is ready
  family_none : (f : Family) → first_in s h out f ≡ None → (n : ℕ) → n < family_size s h f → is_ready s h out (key_in f n) ≡ true → ⊥
  unfolding first_in
  family_none f none n below ready =
      let here : ready_in s h out f n ≡ Some (key_in f n) = ap (λ b. cond {A = Option TaskKey} b (Some (key_in f n)) None) ready in
      let m = filter_map_has (ready_in s h out f) (range_with_len 0 (family_size s h f)) n n (key_in f n) (at_number (family_size s h f) n below) here in
      nothing_there (filter_map (ready_in s h out f) (range_with_len 0 (family_size s h f))) m.0 (key_in f n) none m.1

  -- no family of jobs has one
  record NoJob : Type 0 where
    opens : first_in s h out Opens ≡ None
    warms : first_in s h out Warms ≡ None
    navs : first_in s h out Navs ≡ None
    commits : first_in s h out Commits ≡ None
    requests : first_in s h out Requests ≡ None
    exits : first_in s h out Exits ≡ None

  no_job : first_job s h out ≡ None → NoJob
  unfolding first_job
  no_job none =
      let a = or_none (first_in s h out Opens) (option_or (first_in s h out Warms) (option_or (first_in s h out Navs) (option_or (first_in s h out Commits) (option_or (first_in s h out Requests) (first_in s h out Exits))))) none in
      let b = or_none (first_in s h out Warms) (option_or (first_in s h out Navs) (option_or (first_in s h out Commits) (option_or (first_in s h out Requests) (first_in s h out Exits)))) a.1 in
      let c = or_none (first_in s h out Navs) (option_or (first_in s h out Commits) (option_or (first_in s h out Requests) (first_in s h out Exits))) b.1 in
      let d = or_none (first_in s h out Commits) (option_or (first_in s h out Requests) (first_in s h out Exits)) c.1 in
      let e = or_none (first_in s h out Requests) (first_in s h out Exits) d.1 in
      record { opens = a.0; warms = b.0; navs = c.0; commits = d.0; requests = e.0; exits = e.1 }

  -- a job, and ready
  abbrev IsReadyJob : TaskKey → Type 0
  IsReadyJob key = (is_of_kind kinds.Browser key ≡ true) × (is_ready s h out key ≡ true)

  family_job : (f : Family) (key : TaskKey) → ((n : ℕ) → is_of_kind kinds.Browser (key_in f n) ≡ true) → first_in s h out f ≡ Some key → IsReadyJob key
  family_job f key jobs is =
      let a = family_some f key is in
      (ap (is_of_kind kinds.Browser) (sym a.1) ∙ jobs a.0, a.2)

  some_job : (key : TaskKey) → first_job s h out ≡ Some key → IsReadyJob key
  unfolding first_job
  some_job key is = elim (from_or (first_in s h out Opens) (option_or (first_in s h out Warms) (option_or (first_in s h out Navs) (option_or (first_in s h out Commits) (option_or (first_in s h out Requests) (first_in s h out Exits))))) key is) [
    | inl a ↦ family_job Opens key (λ n. refl) a
    | inr a ↦ elim (from_or (first_in s h out Warms) (option_or (first_in s h out Navs) (option_or (first_in s h out Commits) (option_or (first_in s h out Requests) (first_in s h out Exits)))) key a.1) [
      | inl b ↦ family_job Warms key (λ n. refl) b
      | inr b ↦ elim (from_or (first_in s h out Navs) (option_or (first_in s h out Commits) (option_or (first_in s h out Requests) (first_in s h out Exits))) key b.1) [
        | inl c ↦ family_job Navs key (λ n. refl) c
        | inr c ↦ elim (from_or (first_in s h out Commits) (option_or (first_in s h out Requests) (first_in s h out Exits)) key c.1) [
          | inl d ↦ family_job Commits key (λ n. refl) d
          | inr d ↦ elim (from_or (first_in s h out Requests) (first_in s h out Exits) key d.1) [
            | inl e ↦ family_job Requests key (λ n. refl) e
            | inr e ↦ family_job Exits key (λ n. refl) e.1
          ]
        ]
      ]
    ]
  ]

  -- the first of a kind is of the kind, and ready
  some_of_kind : (kind : Kind) (key : TaskKey) → first_of_kind s h out kind ≡ Some key → (is_of_kind kind key ≡ true) × (is_ready s h out key ≡ true)
  some_of_kind kinds.Browser key is = some_job key is
  some_of_kind kinds.Renderer key is = let a = family_some Acts key is in (ap (is_of_kind kinds.Renderer) (sym a.1), a.2)
  some_of_kind kinds.Loader key is = let a = family_some Loads key is in (ap (is_of_kind kinds.Loader) (sym a.1), a.2)

module _ (rule : ServiceRule) (s : ScriptData) (h : List Entry) (out : List TaskKey) (legal : Legal rule s h) where
  ready_from : (key : TaskKey) → is_ready s h out key ≡ true → IsReady rule s h out key
  unfolding is_ready
  ready_from key ready =
      let n = next_from rule s h legal key (and_right _ _ ready) in
      record { entry = n.entry; is_of = n.is_of; follows = n.follows; free = not_true _ (and_left _ _ ready) }

  ready_to : (key : TaskKey) → IsReady rule s h out key → is_ready s h out key ≡ true
  unfolding is_ready
  ready_to key ready = and_both _ _ (ap not ready.free) (next_to rule s h legal key ready.entry ready.is_of ready.follows)

  none_of_family : (f : Family) (n : ℕ) → first_in s h out f ≡ None → n < family_size s h f → IsReady rule s h out (key_in f n) → ⊥
  none_of_family f n none below ready = family_none s h out f none n below (ready_to (key_in f n) ready)

  no_ready_job : first_job s h out ≡ None → (job : BrowserJob) → IsReady rule s h out (keys.Browser job) → ⊥
  no_ready_job none (jobs.Open k) ready = none_of_family Opens k (no_job s h out none).opens (key_below rule s h legal (keys.Browser (jobs.Open k)) ready.entry ready.is_of ready.follows) ready
  no_ready_job none jobs.Warm ready = none_of_family Warms 0 (no_job s h out none).warms (omega arith) ready
  no_ready_job none (jobs.Nav n) ready = none_of_family Navs n (no_job s h out none).navs (key_below rule s h legal (keys.Browser (jobs.Nav n)) ready.entry ready.is_of ready.follows) ready
  no_ready_job none (jobs.Commit n) ready = none_of_family Commits n (no_job s h out none).commits (key_below rule s h legal (keys.Browser (jobs.Commit n)) ready.entry ready.is_of ready.follows) ready
  no_ready_job none (jobs.Request r) ready = none_of_family Requests r (no_job s h out none).requests (key_below rule s h legal (keys.Browser (jobs.Request r)) ready.entry ready.is_of ready.follows) ready
  no_ready_job none (jobs.Exit p) ready = none_of_family Exits p (no_job s h out none).exits (key_below rule s h legal (keys.Browser (jobs.Exit p)) ready.entry ready.is_of ready.follows) ready

  no_ready_act : first_in s h out Acts ≡ None → (d : ℕ) → IsReady rule s h out (keys.Act d) → ⊥
  no_ready_act none d ready = none_of_family Acts d none (key_below rule s h legal (keys.Act d) ready.entry ready.is_of ready.follows) ready

  no_ready_load : first_in s h out Loads ≡ None → (r : ℕ) → IsReady rule s h out (keys.Load r) → ⊥
  no_ready_load none r ready = none_of_family Loads r none (key_below rule s h legal (keys.Load r) ready.entry ready.is_of ready.follows) ready

  none_of_kind : (kind : Kind) → first_of_kind s h out kind ≡ None → (key : TaskKey) → is_of_kind kind key ≡ true → IsReady rule s h out key → ⊥
  none_of_kind kinds.Browser none (keys.Browser job) of ready = no_ready_job none job ready
  none_of_kind kinds.Renderer none (keys.Act d) of ready = no_ready_act none d ready
  none_of_kind kinds.Loader none (keys.Load r) of ready = no_ready_load none r ready
  none_of_kind kind none key of ready = absurd (cc)

  none_at_all : first_job s h out ≡ None → first_in s h out Acts ≡ None → first_in s h out Loads ≡ None → (key : TaskKey) → IsReady rule s h out key → ⊥
  none_at_all no_job no_act no_load (keys.Browser job) ready = no_ready_job no_job job ready
  none_at_all no_job no_act no_load (keys.Act d) ready = no_ready_act no_act d ready
  none_at_all no_job no_act no_load (keys.Load r) ready = no_ready_load no_load r ready

  of_another : (kind : Kind) → first_of_kind s h out kind ≡ None → (key : TaskKey) → is_ready s h out key ≡ true → IsChosen rule s h out kind key
  of_another kind none key ready = record { ready = ready_from key ready; asked = λ other. record { none = λ x of is. none_of_kind kind none x of is } }

  choose : (kind : Kind) (found : Option TaskKey) → first_ready s h out kind ≡ found → Chooses rule s h out kind found
  unfolding first_ready
  choose kind None is =
      let a = or_none (first_of_kind s h out kind) (option_or (first_job s h out) (option_or (first_in s h out Acts) (first_in s h out Loads))) is in
      let b = or_none (first_job s h out) (option_or (first_in s h out Acts) (first_in s h out Loads)) a.1 in
      let c = or_none (first_in s h out Acts) (first_in s h out Loads) b.1 in
      record { none = λ key ready. none_at_all b.0 c.0 c.1 key ready }
  choose kind (Some key) is = elim (from_or (first_of_kind s h out kind) (option_or (first_job s h out) (option_or (first_in s h out Acts) (first_in s h out Loads))) key is) [
    | inl own ↦ (let a = some_of_kind s h out kind key own in
        record { ready = ready_from key a.1; asked = λ other. absurd (not_both (is_of_kind kind key) a.0 other) })
    | inr a ↦ elim (from_or (first_job s h out) (option_or (first_in s h out Acts) (first_in s h out Loads)) key a.1) [
      | inl job ↦ of_another kind a.0 key (some_job s h out key job).1
      | inr b ↦ elim (from_or (first_in s h out Acts) (first_in s h out Loads) key b.1) [
        | inl act ↦ of_another kind a.0 key (family_some s h out Acts key act).2
        | inr load ↦ of_another kind a.0 key (family_some s h out Loads key load.1).2
      ]
    ]
  ]

-- the first ready task is one that may be chosen
pub chooses : (s : ScriptData) (h : List Entry) (out : List TaskKey) (kind : Kind) (found : Option TaskKey) → found ≡ first_ready s h out kind → ChoosesWell s h out kind found
chooses s h out kind found is rule legal = choose rule s h out legal kind found (sym is)

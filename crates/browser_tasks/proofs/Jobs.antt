-- Of a job: what may follow is of it, and where nothing is found nothing of it may.
use Rattle.std.proofs.Common.{◌∙◌, ap, refl, subst, sym, inl, inr}
use Rattle.std.specs.Prelude.{◌≡◌, ◌⊎◌, ◌==◌, Bool, List, None, Option, Some, cond, false, option_map, true, ℕ}
use Rattle.std.specs.Option.{option_or}
use Rattle.std.proofs.lemmas.Bool.{eq-eqb, eqb-true}
use Rattle.history_entry.specs.declared.entry.Entry.{Entry}
use Rattle.history_entry.specs.declared.entry.Entry.TheVariants.{Commit, Crash, End, Exit, Head, Hop, Local, NavEnd, Opened, Order, Piece, Said, Warm}
use Rattle.history_entry.specs.declared.entry.HopOf.TheVariants.{Nav, Req}
use Rattle.script_model.specs.ScriptData.{ScriptData}
use Rattle.service_rule.specs.Services.{ServiceRule}
use Rattle.service_rule.specs.Store.{store_rule}
use Rattle.history_rules.specs.Entries.{opens}
use Rattle.history_rules.proofs.Apart.{from_cond, from_or, some_same}
use Rattle.history_steps.proofs.TheNexts.{from_commit, from_end, from_end_navigation, from_exit, from_navigation_hop, from_open, from_order, from_request_hop, from_warm}
use Rattle.history_steps.specs.Deliveries.{end_next, request_hop}
use Rattle.history_steps.specs.MayFollow.{MayFollow, commit_next, end_navigation_next, exit_next, navigation_hop, next_of, open_next, order_next, warm_next}
use Rattle.work_queue.specs.declared.task.BrowserJob.{BrowserJob}
use Rattle.work_queue.specs.declared.task.BrowserJob.TheVariants as jobs
use Rattle.browser_tasks.proofs.Forms.{commit_form, end_form, end_navigation_form, exit_form, navigation_hop_form, order_form, request_hop_form, warm_form}
use Rattle.browser_tasks.specs.Candidates.{is_said}
use Rattle.browser_tasks.specs.Objects.{IsOfJob, end_at_once, is_taken_at_once, job_next, navigation_next, opening_of, request_next}
use Rattle.browser_tasks.specs.Outcomes.{Answers, AnswersJob}
use Rattle.browser_tasks.specs.declared.candidate.Candidate.{Candidate}
use Rattle.browser_tasks.specs.declared.candidate.Candidate.TheVariants.{Entry as Ready, Saying as Asks}

-- nothing of either
pub or_none : {A : Type 0} (o p : Option A) → option_or o p ≡ None → (o ≡ None) × (p ≡ None)
or_none None p is = (refl, is)
or_none (Some x) p is = absurd (cc)

-- an object without a next entry has none
pub clash : {A : Type 0} (f : ℕ → Option A) (m n : ℕ) (x : A) → m ≡ n → f n ≡ None → f m ≡ Some x → ⊥
clash f m n x same none some =
    let both : None ≡ Some x = sym none ∙ ap f (sym same) ∙ some in
    absurd (cc)

pub none_some : {A : Type 0} (o : Option A) (x : A) → o ≡ None → o ≡ Some x → ⊥
none_some None x none some = absurd (cc)
none_some (Some y) x none some = absurd (cc)

open_of : (s : ScriptData) (h : List Entry) (k : ℕ) (e : Entry) → opens k e ≡ true → IsOfJob s h (jobs.Open k) e
open_of s h k (Opened page) is = eqb-true page k is
open_of s h k _ is = absurd (cc)

opening_form : (s : ScriptData) (h : List Entry) (k : ℕ) (o : Option Entry) (e : Entry) → opening_of k o ≡ Some e → (o ≡ Some e) × IsOfJob s h (jobs.Open k) e
opening_form s h k None e is = absurd (cc)
opening_form s h k (Some x) e is =
    let a = from_cond (opens k x) (Some x) e is in
    let same : x ≡ e = some_same a.1 in
    (a.1, open_of s h k e (ap (opens k) (sym same) ∙ a.0))

opening_here : (k page : ℕ) (o : Option Entry) → page ≡ k → opening_of k o ≡ None → o ≡ Some (Opened page) → ⊥
opening_here k page o same none is =
    let a : opening_of k (Some (Opened page)) ≡ None = ap (opening_of k) (sym is) ∙ none in
    let b : (page == k) ≡ true = ap (λ x. page == x) (sym same) ∙ eq-eqb page page refl in
    let c : cond (page == k) (Some (Opened page)) None ≡ Some (Opened page) = ap (λ t. cond {A = Option Entry} t (Some (Opened page)) None) b in
    none_some (cond (page == k) (Some (Opened page)) None) (Opened page) a c

module _ (rule : ServiceRule) (s : ScriptData) (h : List Entry) where
  navigation_fine : (n : ℕ) (e : Entry) → navigation_next s h n ≡ Some e → IsOfJob s h (jobs.Nav n) e × MayFollow rule s h e
  unfolding navigation_next
  navigation_fine n e is = elim (from_or (navigation_hop s h n) (option_or (order_next s h n) (end_navigation_next s h n)) e is) [
    | inl hop ↦ (navigation_hop_form s h (IsOfJob s h (jobs.Nav n)) n (λ url. refl) e hop, from_navigation_hop rule s h n e hop)
    | inr later ↦ elim (from_or (order_next s h n) (end_navigation_next s h n) e later.1) [
      | inl order ↦ (order_form s h (IsOfJob s h (jobs.Nav n)) n (λ p site origin url. refl) e order, from_order rule s h n e order)
      | inr ends ↦ (end_navigation_form s h (IsOfJob s h (jobs.Nav n)) n (λ why. refl) e ends.1, from_end_navigation rule s h n e ends.1)
    ]
  ]

  request_fine : (r : ℕ) (e : Entry) → request_next s h r ≡ Some e → IsOfJob s h (jobs.Request r) e × MayFollow rule s h e
  unfolding request_next end_at_once
  request_fine r e is = elim (from_or (request_hop s h r) (end_at_once s h r) e is) [
    | inl hop ↦ (request_hop_form s h (IsOfJob s h (jobs.Request r)) r (λ url. refl) e hop, from_request_hop rule s h r e hop)
    | inr later ↦ (let a = from_cond (is_taken_at_once s h r) (end_next s h r) e later.1 in
        (end_form s h (IsOfJob s h (jobs.Request r)) r (λ how. (refl, a.0)) e a.1, from_end rule s h r e a.1))
  ]

  -- what is found is of the job, and may follow
  pub job_fine : (job : BrowserJob) (e : Entry) → job_next s h job ≡ Some e → IsOfJob s h job e × MayFollow rule s h e
  job_fine (jobs.Open k) e is = let a = opening_form s h k (open_next s h) e is in (a.1, from_open rule s h e a.0)
  job_fine jobs.Warm e is = (warm_form s h (IsOfJob s h jobs.Warm) (λ p. tt) e is, from_warm rule s h e is)
  job_fine (jobs.Nav n) e is = navigation_fine n e is
  job_fine (jobs.Commit n) e is = (commit_form s h (IsOfJob s h (jobs.Commit n)) n (λ p origin url reply. refl) e is, from_commit rule s h n e is)
  job_fine (jobs.Request r) e is = request_fine r e is
  job_fine (jobs.Exit p) e is = (exit_form s h (IsOfJob s h (jobs.Exit p)) p refl e is, from_exit rule s h p e is)

  navigation_none : (n : ℕ) → navigation_next s h n ≡ None → (navigation_hop s h n ≡ None) × (order_next s h n ≡ None) × (end_navigation_next s h n ≡ None)
  unfolding navigation_next
  navigation_none n none =
      let a = or_none (navigation_hop s h n) (option_or (order_next s h n) (end_navigation_next s h n)) none in
      let b = or_none (order_next s h n) (end_navigation_next s h n) a.1 in
      (a.0, b.0, b.1)

  request_none : (r : ℕ) → request_next s h r ≡ None → (request_hop s h r ≡ None) × (is_taken_at_once s h r ≡ true → end_next s h r ≡ None)
  unfolding request_next end_at_once
  request_none r none =
      let a = or_none (request_hop s h r) (end_at_once s h r) none in
      (a.0, λ taken. sym (ap (λ t. cond {A = Option Entry} t (end_next s h r) None) taken) ∙ a.1)

  -- where nothing is found, nothing of the job may follow
  pub job_none : (job : BrowserJob) → job_next s h job ≡ None → (e : Entry) → IsOfJob s h job e → MayFollow rule s h e → ⊥
  unfolding next_of
  job_none (jobs.Open k) none (Opened page) is may = opening_here k page (open_next s h) is none may
  job_none jobs.Warm none (Warm p) is may = none_some (warm_next s h) (Warm p) none may
  job_none (jobs.Nav n) none (Hop (Nav m) url) is may = clash (navigation_hop s h) m n (Hop (Nav m) url) is (navigation_none n none).0 may
  job_none (jobs.Nav n) none (Order m p site origin url) is may = clash (order_next s h) m n (Order m p site origin url) is (navigation_none n none).1 may
  job_none (jobs.Nav n) none (NavEnd m why) is may = clash (end_navigation_next s h) m n (NavEnd m why) is (navigation_none n none).2 may
  job_none (jobs.Commit n) none (Commit p m origin url reply) is may = clash (commit_next s h) m n (Commit p m origin url reply) is none may
  job_none (jobs.Request r) none (Hop (Req q) url) is may = clash (request_hop s h) q r (Hop (Req q) url) is (request_none r none).0 may
  job_none (jobs.Request r) none (End q how) is may = clash (end_next s h) q r (End q how) is.0 ((request_none r none).1 is.1) may
  job_none (jobs.Exit p) none (Exit q) is may = clash (exit_next s h) q p (Exit q) is none may
  job_none job none e is may = absurd is

-- what may follow of a job is no message
quiet_of : (s : ScriptData) (h : List Entry) (job : BrowserJob) (e : Entry) → IsOfJob s h job e → is_said e ≡ false
quiet_of s h (jobs.Open k) (Opened page) is = refl
quiet_of s h jobs.Warm (Warm p) is = refl
quiet_of s h (jobs.Nav n) (Hop (Nav m) url) is = refl
quiet_of s h (jobs.Nav n) (Order m p site origin url) is = refl
quiet_of s h (jobs.Nav n) (NavEnd m why) is = refl
quiet_of s h (jobs.Commit n) (Commit p m origin url reply) is = refl
quiet_of s h (jobs.Request r) (Hop (Req q) url) is = refl
quiet_of s h (jobs.Request r) (End q how) is = refl
quiet_of s h (jobs.Exit p) (Exit q) is = refl
quiet_of s h job e is = absurd is

quiet_job : (s : ScriptData) (h : List Entry) (job : BrowserJob) (e : Entry) → job_next s h job ≡ Some e → is_said e ≡ false
quiet_job s h job e is = quiet_of s h job e (job_fine store_rule s h job e is).0

-- the answer to a job that a worker brings back
pub job_some : (s : ScriptData) (h : List Entry) (job : BrowserJob) (next : Option Entry) (e : Entry) → next ≡ job_next s h job → next ≡ Some e → AnswersJob s h job (Some (Ready e))
job_some s h job next e is some rule legal = job_fine rule s h job e (sym is ∙ some)

pub no_job : (s : ScriptData) (h : List Entry) (job : BrowserJob) (next : Option Entry) → next ≡ job_next s h job → next ≡ None → AnswersJob s h job None
no_job s h job next is none rule legal = record { none = job_none rule s h job (sym is ∙ none) }

pub job_quiet : (s : ScriptData) (h : List Entry) (job : BrowserJob) (next : Option Entry) (e : Entry) → next ≡ job_next s h job → next ≡ Some e → is_said e ≡ false
job_quiet s h job next e is some = quiet_job s h job e (sym is ∙ some)

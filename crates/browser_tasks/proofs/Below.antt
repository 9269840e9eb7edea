-- A task of which an entry may follow is among those that are looked through, and each entry that may follow is one of a task.
use Rattle.std.proofs.Common.{◌∙◌, ap, arith, refl, subst, sym, inl, inr}
use Rattle.std.specs.Prelude.{◌≡◌, ◌⊎◌, ◌<◌, ◌&&◌, ◌||◌, Bool, List, None, Option, Some, false, true, ⊤, ℕ}
use Rattle.std.specs.List.{list_any}
use Rattle.page_origin.specs.declared.origin.Origin.{Origin}
use Rattle.history_entry.specs.declared.entry.Entry.{Entry}
use Rattle.history_entry.specs.declared.entry.Entry.TheVariants.{Commit, Crash, End, Exit, Head, Hop, Local, NavEnd, Opened, Order, Piece, Said, Warm}
use Rattle.history_entry.specs.declared.entry.HopOf.TheVariants.{Nav, Req}
use Rattle.history_entry.specs.declared.reply.Reply.{Reply}
use Rattle.history_entry.specs.declared.rule.Rule.{Rule}
use Rattle.script_model.specs.ScriptData.{ScriptData}
use Rattle.service_rule.specs.Services.{ServiceRule}
use Rattle.history_rules.proofs.Apart.{and_left, and_right, any_found, from_cond, true_or_false}
use Rattle.history_rules.specs.Documents.{documents, is_current, is_current_in}
use Rattle.history_rules.specs.Frames.{navigations_made}
use Rattle.history_rules.specs.Orders.{OrderData}
use Rattle.history_rules.specs.Processes.{started}
use Rattle.history_rules.specs.Redirects.{is_redirect, response}
use Rattle.history_rules.specs.Requests.{has_head, request_chain, requests_made}
use Rattle.history_rules.specs.Sights.{next_act}
use Rattle.history_steps.proofs.Frames.{began_below}
use Rattle.history_steps.proofs.Locks.{locked_started}
use Rattle.history_steps.proofs.Orders.{order_of_found}
use Rattle.history_steps.proofs.Presence.{ordered_began}
use Rattle.history_steps.proofs.Requests.{head_states}
use Rattle.history_steps.proofs.Rows.{commit_row, end_navigation_row, end_row, exit_row, head_row, local_row, navigation_hop_row, opened_row, order_row, piece_row, request_hop_row, said_row}
use Rattle.history_steps.proofs.Shapes.{order_data}
use Rattle.history_steps.proofs.TheNexts.{current_below, live_below, pending_below}
use Rattle.history_steps.specs.MayFollow.{MayFollow, crash_next, is_crash, next_of}
use Rattle.history_steps.specs.Run.{Legal}
use Rattle.script_model.specs.ResourceData.{fails_at_once}
use Rattle.script_model.specs.ScriptData.{starts}
use Rattle.work_queue.specs.declared.task.BrowserJob.{BrowserJob}
use Rattle.work_queue.specs.declared.task.BrowserJob.TheVariants as jobs
use Rattle.work_queue.specs.declared.task.TaskKey.{TaskKey}
use Rattle.work_queue.specs.declared.task.TaskKey.TheVariants as keys
use Rattle.browser_tasks.specs.Objects.{Crashes, IsDelivery, IsOfJob, IsOfKey, is_taken_at_once}

-- the number of a task's object is below the count of such objects
abbrev pub IsBelow : ScriptData → List Entry → TaskKey → Type 0
IsBelow s h (keys.Browser (jobs.Open k)) = k < starts s
IsBelow s h (keys.Browser jobs.Warm) = ⊤
IsBelow s h (keys.Browser (jobs.Nav n)) = n < navigations_made s h
IsBelow s h (keys.Browser (jobs.Commit n)) = n < navigations_made s h
IsBelow s h (keys.Browser (jobs.Request r)) = r < requests_made h
IsBelow s h (keys.Browser (jobs.Exit p)) = p < started h
IsBelow s h (keys.Act d) = d < navigations_made s h
IsBelow s h (keys.Load r) = r < requests_made h

taken_false : (a b : Bool) → a ≡ false → b ≡ false → (a || b) ≡ false
taken_false true b x y = absurd (cc)
taken_false false b x y = y

module _ (rule : ServiceRule) (s : ScriptData) (h : List Entry) (legal : Legal rule s h) where
  commit_below : (p n : ℕ) (origin : Origin) (url : List ℕ) (reply : Reply)
      → MayFollow rule s h (Commit p n origin url reply) → n < navigations_made s h
  commit_below p n origin url reply may =
      let row = commit_row rule s h p n origin url reply may in
      let a : OrderData = order_data p row.site origin url in
      let f = order_of_found h n a row.ordered in
      began_below s h n (ordered_began rule s h legal f.place n a f.here)

  job_below : (job : BrowserJob) (e : Entry) → IsOfJob s h job e → MayFollow rule s h e → IsBelow s h (keys.Browser job)
  job_below (jobs.Open k) (Opened page) is may = subst (λ x. x < starts s) is (opened_row rule s h page may).1
  job_below jobs.Warm (Warm p) is may = tt
  job_below (jobs.Nav n) (Hop (Nav m) url) is may = subst (λ x. x < navigations_made s h) is (pending_below rule s h legal m (navigation_hop_row rule s h m url may).pending)
  job_below (jobs.Nav n) (Order m p site origin url) is may = subst (λ x. x < navigations_made s h) is (pending_below rule s h legal m (order_row rule s h m p site origin url may).pending)
  job_below (jobs.Nav n) (NavEnd m why) is may = subst (λ x. x < navigations_made s h) is (pending_below rule s h legal m (end_navigation_row rule s h m why may))
  job_below (jobs.Commit n) (Commit p m origin url reply) is may = subst (λ x. x < navigations_made s h) is (commit_below p m origin url reply may)
  job_below (jobs.Request r) (Hop (Req q) url) is may = subst (λ x. x < requests_made h) is (live_below rule s h legal q (request_hop_row rule s h q url may).live)
  job_below (jobs.Request r) (End q how) is may = subst (λ x. x < requests_made h) is.0 (live_below rule s h legal q (end_row rule s h q how may).0)
  job_below (jobs.Exit p) (Exit q) is may = subst (λ x. x < started h) is (locked_started h q (exit_row rule s h q may))
  job_below job e is may = absurd is

  pub delivery_below : (r : ℕ) (e : Entry) → IsDelivery r e → MayFollow rule s h e → r < requests_made h
  delivery_below r (Head q why) is may = subst (λ x. x < requests_made h) is (live_below rule s h legal q (head_row rule s h q why may).live)
  delivery_below r (Piece q i bytes) is may = subst (λ x. x < requests_made h) is (live_below rule s h legal q (piece_row rule s h q i bytes may).live)
  delivery_below r (End q how) is may = subst (λ x. x < requests_made h) is (live_below rule s h legal q (end_row rule s h q how may).0)
  delivery_below r e is may = absurd is

  pub act_current : (d : ℕ) (e : Entry) → IsOfKey s h (keys.Act d) e → MayFollow rule s h e → is_current s h d ≡ true
  act_current d (Said p document k message reply) is may = subst (λ x. is_current s h x ≡ true) is (said_row rule s h p document k message reply may).current
  act_current d (Local p document k what) is may = subst (λ x. is_current s h x ≡ true) is (local_row rule s h p document k what may).current
  act_current d (Crash p) is may = and_left _ _ is.0
  act_current d e is may = absurd is

  pub key_below : (key : TaskKey) (e : Entry) → IsOfKey s h key e → MayFollow rule s h e → IsBelow s h key
  key_below (keys.Browser job) e is may = job_below job e is may
  key_below (keys.Act d) e is may = current_below rule s h legal d (act_current d e is may)
  key_below (keys.Load r) e is may = delivery_below r e is.0 may

  headed_open : (r : ℕ) → has_head h r ≡ true → is_taken_at_once s h r ≡ false
  unfolding is_taken_at_once
  headed_open r head =
      let a = (head_states rule s h legal r).headed head in
      taken_false (fails_at_once (response s (request_chain h r))) (is_redirect (response s (request_chain h r))) a.arrives a.stays

  headless_open : (r : ℕ) (why : Rule) → MayFollow rule s h (Head r why) → is_taken_at_once s h r ≡ false
  unfolding is_taken_at_once
  headless_open r why may =
      let a = head_row rule s h r why may in
      taken_false (fails_at_once (response s (request_chain h r))) (is_redirect (response s (request_chain h r))) a.arrives a.stays

  crash_document : (p : ℕ) → MayFollow rule s h (Crash p) → (d : ℕ) × Crashes s h d p
  unfolding next_of crash_next
  crash_document p may =
      let a = from_cond (list_any (λ d. is_current_in s h p d && is_crash (next_act s h d)) (documents s h)) (Some (Crash p)) (Crash p) may in
      let f = any_found (λ d. is_current_in s h p d && is_crash (next_act s h d)) (documents s h) a.0 in
      (f.item, (and_left _ _ f.passes, and_right _ _ f.passes))

  -- each entry that may follow is one of a task
  pub key_of_next : (e : Entry) → MayFollow rule s h e → (key : TaskKey) × IsOfKey s h key e
  key_of_next (Opened k) may = (keys.Browser (jobs.Open k), refl)
  key_of_next (Warm p) may = (keys.Browser jobs.Warm, tt)
  key_of_next (Hop (Nav n) url) may = (keys.Browser (jobs.Nav n), refl)
  key_of_next (Hop (Req r) url) may = (keys.Browser (jobs.Request r), refl)
  key_of_next (Order n p site origin url) may = (keys.Browser (jobs.Nav n), refl)
  key_of_next (NavEnd n why) may = (keys.Browser (jobs.Nav n), refl)
  key_of_next (Said p d k message reply) may = (keys.Act d, refl)
  key_of_next (Crash p) may = let d = crash_document p may in (keys.Act d.0, d.1)
  key_of_next (Commit p n origin url reply) may = (keys.Browser (jobs.Commit n), refl)
  key_of_next (Local p d k what) may = (keys.Act d, refl)
  key_of_next (Head r why) may = (keys.Load r, (refl, headless_open r why may))
  key_of_next (Piece r i bytes) may = (keys.Load r, (refl, headed_open r (piece_row rule s h r i bytes may).headed))
  key_of_next (End r how) may = elim (true_or_false (is_taken_at_once s h r)) [
    | inl taken ↦ (keys.Browser (jobs.Request r), (refl, taken))
    | inr open_yet ↦ (keys.Load r, (refl, open_yet))
  ]
  key_of_next (Exit p) may = (keys.Browser (jobs.Exit p), refl)

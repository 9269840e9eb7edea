-- A request in later histories: its document stays current over entries of deliveries, and its facts stay where its response is no
-- redirect.
use Rattle.std.proofs.Common.{ap, refl, subst, sym, ◌∙◌}
use Rattle.std.specs.Prelude.{◌≡◌, ◌≤◌, ◌<◌, ◌||◌, ◌++◌, ◌∷◌, [], if◌then◌else◌, List, None, Option, Some, drop, false, length, not, option_and_then, take, true, ℕ}
use Rattle.std.specs.Option.{option_map_or}
use Rattle.std.proofs.lemmas.List.{take-append-drop}
use Rattle.history_entry.specs.declared.body.Body.{Body}
use Rattle.history_entry.specs.declared.body.Body.TheVariants.{Fetch}
use Rattle.history_entry.specs.declared.body.Message.{Message}
use Rattle.history_entry.specs.declared.entry.Entry.{Entry}
use Rattle.history_entry.specs.declared.entry.Entry.TheVariants.{End, Head, Piece}
use Rattle.history_entry.specs.declared.rule.Rule.{Rule}
use Rattle.history_rules.proofs.Apart.{and_both, and_left, and_right, from_else, not_false, or_false, some_same}
use Rattle.history_rules.proofs.Growth.{any_still}
use Rattle.history_rules.specs.Documents.{hosted, is_current, is_present, process_of}
use Rattle.history_rules.specs.Entries.{body_makes_request, makes_request}
use Rattle.history_rules.specs.Frames.{frame_of, navigations_made, was_made}
use Rattle.history_rules.specs.Judgement.{is_did_commit}
use Rattle.history_rules.specs.Redirects.{hop_url, is_redirect, is_spent, is_web, joined_url, response}
use Rattle.history_rules.specs.Requests.{has_end, hop_of_request, is_end_of, is_live_request, request_chain, request_document}
use Rattle.history_steps.proofs.Changes.{IsQuiet, quiet_current}
use Rattle.history_steps.proofs.Current.{current_found}
use Rattle.history_steps.proofs.Frames.{began_below, frame_of_kept, was_made_kept}
use Rattle.history_steps.proofs.Induction.{kept_from, legal_take}
use Rattle.history_steps.proofs.Presence.{accepted_row, filtered, hosted_began, or_other}
use Rattle.history_steps.proofs.Requests.{IsSameRequest, filter_passes, hop_form, live_document, maker_found, request_document_kept, request_hosted, request_kept}
use Rattle.history_steps.proofs.Rows.{end_row, head_row, piece_row, request_hop_row}
use Rattle.history_steps.specs.MayFollow.{MayFollow}
use Rattle.history_steps.specs.Run.{Legal}
use Rattle.process_standings.proofs.Deaths.{requests_stay}
use Rattle.process_standings.specs.Laws.{request_process}
use Rattle.script_model.specs.ResourceData.{fails_at_once}
use Rattle.script_model.specs.ScriptData.{ScriptData}
use Rattle.service_rule.specs.Services.{ServiceRule}
use Rattle.work_queue.specs.declared.task.LoadTask.{LoadTask}
use Rattle.browser_tasks.proofs.Hosting.{hosted_process}
use Rattle.browser_tasks.specs.Objects.{IsDelivery, is_taken_at_once}
use Rattle.browser_tasks.specs.TaskData.{HoldsLoad}

makes_fetch : (b : Body) → body_makes_request b ≡ true → is_did_commit b ≡ false
makes_fetch (Fetch url mode initiator) e = refl
makes_fetch _ e = absurd (cc)

module _ (rule : ServiceRule) (s : ScriptData) (h : List Entry) (legal : Legal rule s h) where
  -- the frame of its document was made
  request_frame : (r d : ℕ) → request_document h r ≡ Some d → was_made s h (frame_of s h d) ≡ true
  unfolding is_present
  request_frame r d e =
      let f = maker_found h r d e in
      let m : Message = f.0 in
      let c = filtered makes_request h r f.1.item f.1.listed in
      let g = take c.0 h in
      let passes : makes_request f.1.item ≡ true = filter_passes makes_request h r f.1.item f.1.listed in
      let fetches : body_makes_request m.body ≡ true = ap (λ o. option_map_or (λ (x : Message). body_makes_request x.body) o false) (sym f.1.says) ∙ passes in
      let row = accepted_row rule s g f.1.item m (legal c.0 f.1.item c.1) f.1.says in
      let by : hosted g row.process m.document ≡ true = or_other (is_did_commit m.body) (hosted g row.process m.document) (makes_fetch m.body fetches) row.as_judged.of_process in
      let current : is_current s g m.document ≡ true = or_other (is_did_commit m.body) (is_current s g m.document) (makes_fetch m.body fetches) row.as_judged.of_current in
      let below : m.document < navigations_made s g = began_below s g m.document (hosted_began rule s g (legal_take rule s h c.0 legal) row.process m.document by) in
      let made : was_made s g (frame_of s g m.document) ≡ true = and_left _ _ (current_found s g m.document current).present in
      let same : frame_of s (g ++ drop c.0 h) m.document ≡ frame_of s g m.document = frame_of_kept s g (drop c.0 h) m.document below in
      let whole : was_made s (g ++ drop c.0 h) (frame_of s (g ++ drop c.0 h) m.document) ≡ true =
      ap (was_made s (g ++ drop c.0 h)) same ∙ was_made_kept s g (drop c.0 h) (frame_of s g m.document) made in
      let there : was_made s h (frame_of s h m.document) ≡ true = subst (λ x. was_made s x (frame_of s x m.document) ≡ true) (take-append-drop c.0 h) whole in
      subst (λ (x : ℕ). was_made s h (frame_of s h x) ≡ true) f.2 there

  -- a quiet entry leaves its document current
  request_current : (e : Entry) → MayFollow rule s h e → IsQuiet e → (r d : ℕ) → request_document h r ≡ Some d → is_current s (h ++ e ∷ []) d ≡ is_current s h d
  request_current e may quiet r d is =
      let by = request_hosted rule s h legal r d is in
      quiet_current rule s h e legal may quiet d (hosted_began rule s h legal by.0 d by.1) (request_frame r d is)

  -- and the request live, unless it is its end
  live_kept : (e : Entry) → MayFollow rule s h e → IsQuiet e → (r : ℕ) → is_end_of r e ≡ false → is_live_request s h r ≡ true → is_live_request s (h ++ e ∷ []) r ≡ true
  unfolding is_live_request has_end
  live_kept e may quiet r no_end live =
      let d = live_document s h r live in
      let awaited : option_map_or (is_current s h) (request_document h r) false ≡ true = and_left (option_map_or (is_current s h) (request_document h r) false) (not (has_end h r)) live in
      let current : is_current s h d.0 ≡ true = ap (λ o. option_map_or (is_current s h) o false) (sym d.1) ∙ awaited in
      and_both _ _
      (ap (λ o. option_map_or (is_current s (h ++ e ∷ [])) o false) (request_document_kept h (e ∷ []) r d.0 d.1) ∙ request_current e may quiet r d.0 d.1 ∙ current)
      (ap not (any_still (is_end_of r) h e no_end) ∙ and_right (option_map_or (is_current s h) (request_document h r) false) (not (has_end h r)) live)

  pub head_live : (q : ℕ) (why : Rule) → MayFollow rule s h (Head q why) → (r : ℕ) → is_live_request s h r ≡ true → is_live_request s (h ++ Head q why ∷ []) r ≡ true
  head_live q why may r live = live_kept (Head q why) may (record { commits_none = refl; ends_none = λ p. refl; removes_none = λ f. refl }) r refl live

  pub piece_live : (q i : ℕ) (bytes : List ℕ) → MayFollow rule s h (Piece q i bytes) → (r : ℕ) → is_live_request s h r ≡ true → is_live_request s (h ++ Piece q i bytes ∷ []) r ≡ true
  piece_live q i bytes may r live = live_kept (Piece q i bytes) may (record { commits_none = refl; ends_none = λ p. refl; removes_none = λ f. refl }) r refl live

  -- what is delivered may follow for a live request alone
  pub delivery_live : (r : ℕ) (e : Entry) → IsDelivery r e → MayFollow rule s h e → is_live_request s h r ≡ true
  delivery_live r (Head q why) is may = subst (λ x. is_live_request s h x ≡ true) is (head_row rule s h q why may).live
  delivery_live r (Piece q i bytes) is may = subst (λ x. is_live_request s h x ≡ true) is (piece_row rule s h q i bytes may).live
  delivery_live r (End q how) is may = subst (λ x. is_live_request s h x ≡ true) is (end_row rule s h q how may).0
  delivery_live r e is may = absurd is

  -- the document of a request has a process
  pub live_process : (r : ℕ) → is_live_request s h r ≡ true → (p : ℕ) × (request_process h r ≡ Some p)
  live_process r live =
      let d = live_document s h r live in
      let host = request_hosted rule s h legal r d.0 d.1 in
      let process = hosted_process h host.0 d.0 host.1 in
      (process.0, ap (option_and_then (process_of h)) d.1 ∙ process.1)

-- ---- where the response is no redirect

hops_redirect : (s : ScriptData) (chain : List (List ℕ)) (url : List ℕ) → hop_url s chain ≡ Some url → is_redirect (response s chain) ≡ true
unfolding hop_url
hops_redirect s chain url goes =
    let a = from_else (fails_at_once (response s chain) || not (is_redirect (response s chain)) || is_spent chain)
    (option_and_then (λ u. if is_web u then Some u else None) (joined_url s chain)) url goes in
    not_false (is_redirect (response s chain)) (or_false _ _ (or_false _ _ a.0).0).1

no_hop : (rule : ServiceRule) (s : ScriptData) (h : List Entry) (e : Entry) (r : ℕ) → MayFollow rule s h e → is_redirect (response s (request_chain h r)) ≡ false → hop_of_request r e ≡ None
no_hop rule s h e r may stays = by_cases (hop_of_request r e) refl
  where
    by_cases : (o : Option (List ℕ)) → hop_of_request r e ≡ o → hop_of_request r e ≡ None
    by_cases None is = is
    by_cases (Some url) is =
        let row = request_hop_row rule s h r url (subst (λ x. MayFollow rule s h x) (hop_form r e url is) may) in
        absurd (let goes = hops_redirect s (request_chain h r) url row.goes in cc)

-- what is so of a request from some place on
record IsStill (s : ScriptData) (start g : List Entry) (r d : ℕ) : Type 0 where
  document : request_document g r ≡ Some d
  stays : is_redirect (response s (request_chain g r)) ≡ false
  same : IsSameRequest s start g r

pub same_from : (rule : ServiceRule) (s : ScriptData) (h : List Entry) → Legal rule s h → (i r d : ℕ) → i ≤ length h → request_document (take i h) r ≡ Some d
    → is_redirect (response s (request_chain (take i h) r)) ≡ false → IsSameRequest s (take i h) h r
same_from rule s h legal i r d le document stays =
    (kept_from rule s (λ g. IsStill s (take i h) g r d) next h i legal le (record { document = document; stays = stays; same = record { chain = refl; mode = refl; origin = refl } })).same
  where
    next : (g : List Entry) (e : Entry) → Legal rule s g → MayFollow rule s g e → IsStill s (take i h) g r d → IsStill s (take i h) (g ++ e ∷ []) r d
    next g e is_legal may was =
        let step = request_kept rule s g e is_legal may r d was.document (no_hop rule s g e r may was.stays) in
        let same = was.same in record {
          document = request_document_kept g (e ∷ []) r d was.document;
          stays = ap (λ c. is_redirect (response s c)) step.chain ∙ was.stays;
          same = record { chain = step.chain ∙ same.chain; mode = step.mode ∙ same.mode; origin = step.origin ∙ same.origin };
        }

-- what is taken by a load: neither a wire that fails at once, nor a redirect
pub record IsByLoad (s : ScriptData) (chain : List (List ℕ)) : Type 0 where
  pub arrives : fails_at_once (response s chain) ≡ false
  pub stays : is_redirect (response s chain) ≡ false

pub by_load_from : (s : ScriptData) (h : List Entry) (r : ℕ) → is_taken_at_once s h r ≡ false → IsByLoad s (request_chain h r)
unfolding is_taken_at_once
by_load_from s h r is =
    let a = or_false (fails_at_once (response s (request_chain h r))) (is_redirect (response s (request_chain h r))) is in
    record { arrives = a.0; stays = a.1 }

pub by_load_to : (s : ScriptData) (h : List Entry) (r : ℕ) → IsByLoad s (request_chain h r) → is_taken_at_once s h r ≡ false
unfolding is_taken_at_once
by_load_to s h r is =
    ap (λ b. b || is_redirect (response s (request_chain h r))) is.arrives ∙ is.stays

-- ---- the facts that a load holds, in a beginning and in the whole

module _ (rule : ServiceRule) (s : ScriptData) (h : List Entry) (legal : Legal rule s h) (i : ℕ) (le : i ≤ length h) (task : LoadTask)
    (live : is_live_request s (take i h) task.request ≡ true) (stays : is_redirect (response s (request_chain (take i h) task.request)) ≡ false) where
  same : IsSameRequest s (take i h) h task.request
  same =
      let d = live_document s (take i h) task.request live in
      same_from rule s h legal i task.request d.0 le d.1 stays

  pub holds_later : HoldsLoad (take i h) task → HoldsLoad h task
  holds_later holds =
      let all = same in record {
        process = requests_stay rule s h i task.request task.process legal holds.process;
        origin = all.origin ∙ holds.origin;
        chain = all.chain ∙ holds.chain;
        web = holds.web;
        mode = all.mode ∙ holds.mode;
      }

  pub holds_before : HoldsLoad h task → HoldsLoad (take i h) task
  holds_before holds =
      let all = same in
      let process = live_process rule s (take i h) (legal_take rule s h i legal) task.request live in
      let later : request_process h task.request ≡ Some process.0 = requests_stay rule s h i task.request process.0 legal process.1 in
      let one : process.0 ≡ task.process = some_same (sym later ∙ holds.process) in record {
        process = process.1 ∙ ap (λ p. Some p) one;
        origin = sym all.origin ∙ holds.origin;
        chain = sym all.chain ∙ holds.chain;
        web = holds.web;
        mode = sym all.mode ∙ holds.mode;
      }

-- Each entry that may follow a history of kept entries is kept, and so each entry of a legal history.
use Rattle.std.proofs.Common.{refl, ap, sym, ◌∙◌, subst, arith}
use Rattle.std.specs.Prelude.{◌≡◌, ◌==◌, ◌<◌, ◌≤◌, ◌++◌, ◌∷◌, [], Bool, List, None, Option, Some, bytes_eq, cond, count_by, drop, false, filter_map, length, option_and_then, option_map, slice_get, suc, true, unwrap_or, zero, ℕ, take}
use Rattle.std.specs.List.{AllByRecursion, range_with_len, find}
use Rattle.std.specs.Option.{option_map_or}
use Rattle.std.proofs.lemmas.Bool.{eq-eqb}
use Rattle.std.proofs.lemmas.Option.{slice_get_within}
use Rattle.page_origin.proofs.Spellings.{url_is_text}
use Rattle.page_origin.specs.PageUrls.{key_of}
use Rattle.page_origin.specs.declared.origin.Origin.{Origin}
use Rattle.page_origin.specs.declared.site.Site.{Site}
use Rattle.history_entry.specs.declared.body.Body.{Body}
use Rattle.history_entry.specs.declared.body.Body.TheVariants.{Post}
use Rattle.history_entry.specs.declared.body.Message.{Message}
use Rattle.history_entry.specs.declared.entry.Entry.{Entry}
use Rattle.history_entry.specs.declared.entry.Entry.TheVariants.{Commit, Crash, End, Exit, Head, Hop, Local, NavEnd, Opened, Order, Piece, Said, Warm}
use Rattle.history_entry.specs.declared.entry.HopOf.TheVariants.{Nav, Req}
use Rattle.history_entry.specs.declared.entry.LocalWhat.{LocalWhat}
use Rattle.history_entry.specs.declared.entry.LocalWhat.TheVariants.{Skipped, Took, Waited}
use Rattle.script_model.specs.ResourceData.{ResourceData}
use Rattle.script_model.specs.ScriptData.{ScriptData, find_resource}
use Rattle.script_model.specs.declared.post.Posted.{Posted}
use Rattle.history_rules.proofs.Apart.{and_left, from_cond, from_map, from_then}
use Rattle.history_rules.specs.Documents.{actions_done, document_in, is_current, process_of}
use Rattle.history_rules.specs.Entries.{accepted}
use Rattle.history_rules.specs.Frames.{frames_made, navigations_made}
use Rattle.history_rules.specs.Inboxes.{PostData, body_post, inbox, post_at, post_in, posts_to, takes}
use Rattle.history_rules.specs.Judgement.{judge, judge_commit}
use Rattle.history_rules.specs.Navigations.{chain_of, is_newest, is_pending}
use Rattle.script_model.specs.Pieces.{pieces}
use Rattle.history_rules.specs.Processes.{is_locked}
use Rattle.history_rules.specs.Redirects.{last_url}
use Rattle.history_rules.specs.Requests.{delivered, request_chain}
use Rattle.history_rules.specs.Responses.{absent, resource_at}
use Rattle.service_rule.specs.Services.{ServiceRule}
use Rattle.history_rules.specs.Sights.{next_act}
use Rattle.history_rules.specs.declared.act.Act.{Act}
use Rattle.history_rules.specs.declared.act.Act.TheVariants.{Done, Message as Sends, Recv as Receives, Skip, Wait as Waits}
use Rattle.history_steps.proofs.Bounds.{frames_bounded, navigations_bounded}
use Rattle.history_steps.proofs.Frames.{began_below}
use Rattle.history_steps.proofs.Induction.{legal_ind, legal_more}
use Rattle.history_steps.proofs.Locks.{filter_map_found, order_started}
use Rattle.history_steps.proofs.Rows.{commit_row, local_row, navigation_hop_row, opened_row, order_row, piece_row, request_hop_row, said_row}
use Rattle.history_steps.specs.MayFollow.{MayFollow, local_in, local_next, local_what, next_of}
use Rattle.history_steps.specs.Run.{Legal}
use Rattle.history_steps.specs.ScriptLimits.{IsWithinLimits}
use Rattle.history_laws.proofs.Bound.{locked_few, numbers_few, started_few}
use Rattle.history_laws.proofs.EntryKinds.{number_of}
use Rattle.history_laws.proofs.Limits.{acts_few, resource_pieces_few}
use Rattle.entry_reading.specs.Entries.{IsBody, IsEntry, IsMessage, IsNumber, IsOrigin, IsReply, IsSite, IsWhat}
use Rattle.kept_entries.proofs.Acts.{act_kept}
use Rattle.kept_entries.proofs.PieceForms.{IsPieceOf, pieces_kept}
use Rattle.kept_entries.proofs.Replies.{IsKeptReply, commit_kept, reply_kept}
use Rattle.kept_entries.proofs.Spelled.{IsSpelled, chain_spelled, commit_origin_kept, followed_spelled, site_kept}
use Rattle.kept_entries.proofs.Told.{accepted_kept, all_at, all_push, order_kept}
use Rattle.kept_entries.specs.EntryLaw.{AnswersTexts, EntriesAreKept}
use Rattle.kept_entries.specs.KeptScripts.{IsKeptResource, IsKeptScript}

number : (n : ℕ) → n < 4096 → IsNumber n
number n few = omega arith

at_end : (h : List Entry) (e : Entry) → slice_get (h ++ e ∷ []) (length h) ≡ Some e
at_end [] e = refl
at_end (x ∷ h) e = at_end h e

-- ---- the pieces of a response

pub found_at : (P : ResourceData → Type 0) (p : ResourceData → Bool) (xs : List ResourceData) (r : ResourceData) → AllByRecursion P xs → find p xs ≡ Some r → P r
found_at P p [] r all is = absurd (cc)
found_at P p (x ∷ xs) r all is = by_cases (p x) (found_at P p xs r all.1) is
  where
    by_cases : (b : Bool) → (find p xs ≡ Some r → P r) → cond b (Some x) (find p xs) ≡ Some r → P r
    by_cases true more e = let same : x ≡ r = cc in subst P same all.0
    by_cases false more e = more e

resource_pieces : (s : ScriptData) (url : List ℕ) → IsKeptScript s → AllByRecursion IsPieceOf (pieces (resource_at s url))
unfolding find_resource pieces
resource_pieces s url script = by_cases (find_resource s (key_of url)) refl
  where
    by_cases : (o : Option ResourceData) → find_resource s (key_of url) ≡ o → AllByRecursion IsPieceOf (pieces (unwrap_or o (absent url)))
    by_cases None e = tt
    by_cases (Some r) e =
        let kept : IsKeptResource r = found_at IsKeptResource (λ x. bytes_eq (key_of x.url) (key_of url)) s.resources r script.resources e in
        pieces_kept r kept.body kept.cuts

-- ---- posts

got_drop : {X : Type 0} (n : ℕ) (xs : List X) (i : ℕ) (x : X) → slice_get (drop n xs) i ≡ Some x → (j : ℕ) × (slice_get xs j ≡ Some x)
got_drop zero xs i x at = (i, at)
got_drop (suc n) [] i x at = absurd (cc)
got_drop (suc n) (y ∷ xs) i x at = let later = got_drop n xs i x at in (suc later.0, later.1)

abbrev IsKeptPost : Posted → Type 0
IsKeptPost p = IsWhat (Took p.source p.text)

body_post_kept : (b : Body) (p : PostData) → IsBody b → body_post b ≡ Some p → IsKeptPost p.posted
body_post_kept (Post frame target source text) p is e =
    let made : PostData = record { frame = frame; posted = record { source = source; text = text } } in
    let same : made ≡ p = cc in
    let posted : IsKeptPost made.posted = (is.2, is.3) in
    subst (λ (x : PostData). IsKeptPost x.posted) same posted
body_post_kept _ p is e = absurd (cc)

module _ (s : ScriptData) (h : List Entry) (kept : AllByRecursion IsEntry h) where
  post_kept : (d i : ℕ) (p : Posted) → post_at s h d i ≡ Some p → IsKeptPost p
  post_kept d i p is =
      let a = from_then (λ (post : PostData). cond (option_map_or (λ c. c == d) (document_in s (take i h) post.frame) false) (Some post.posted) None) (option_and_then post_in (slice_get h i)) p is in
      let post : PostData = a.0 in
      let b = from_then post_in (slice_get h i) post a.1 in
      let c = from_then (λ (m : Message). body_post m.body) (accepted b.0) post b.2 in
      let message : IsMessage c.0 = accepted_kept b.0 c.0 (all_at IsEntry h i b.0 kept b.1) c.1 in
      let posted : IsKeptPost post.posted = body_post_kept c.0.body post message.1 c.2 in
      let e = from_cond _ (Some post.posted) p a.2 in
      let same : post.posted ≡ p = (let both = e.1 in cc) in
      subst IsKeptPost same posted

  inbox_kept : (d : ℕ) (p : Posted) → slice_get (inbox s h d) 0 ≡ Some p → IsKeptPost p
  unfolding inbox posts_to
  inbox_kept d p at = by_cases (is_current s h d) at
    where
      by_cases : (b : Bool) → slice_get (cond b (drop (count_by (takes d) h) (filter_map (post_at s h d) (range_with_len 0 (length h)))) []) 0 ≡ Some p → IsKeptPost p
      by_cases true e =
          let a = got_drop (count_by (takes d) h) (filter_map (post_at s h d) (range_with_len 0 (length h))) 0 p e in
          let m = filter_map_found (post_at s h d) (range_with_len 0 (length h)) a.0 p a.1 in
          post_kept d m.item p m.gives
      by_cases false e = absurd (cc)

  what_kept : (d : ℕ) (act : Act) (what : LocalWhat) → local_what s h d act ≡ Some what → IsWhat what
  unfolding local_what
  what_kept d act Waited is = tt
  what_kept d act Skipped is = tt
  what_kept d Receives (Took source text) is =
      let a = from_map (λ (post : Posted). Took post.source post.text) (slice_get (inbox s h d) 0) (Took source text) is in
      subst IsWhat a.2 (inbox_kept d a.0 a.1)
  what_kept d Waits (Took source text) is = absurd (waits _ is)
    where
      waits : (b : Bool) → cond b None (Some Waited) ≡ Some (Took source text) → ⊥
      waits true e = cc
      waits false e = cc
  what_kept d Skip (Took source text) is = absurd (cc)
  what_kept d _ (Took source text) is = absurd (cc)

module _ (rule : ServiceRule) (answers : AnswersTexts rule) (s : ScriptData) (script : IsKeptScript s) (limits : IsWithinLimits s) (h : List Entry) (legal : Legal rule s h) (kept : AllByRecursion IsEntry h) where
  navigations_few : navigations_made s h ≤ 256
  navigations_few = omega (arith, navigations_bounded rule s h legal, limits.few_pages)

  frames_few : frames_made s h ≤ 64
  frames_few = omega (arith, frames_bounded rule s h legal, limits.few_pages)

  its_number : (e : Entry) → MayFollow rule s h e → IsNumber (number_of e)
  its_number e may = number (number_of e) (numbers_few rule s h e limits legal may)

  process_number : (p : ℕ) → is_locked h p ≡ true → IsNumber p
  process_number p locked = number p (omega (arith, locked_few rule s h p legal locked))

  pending_below : (n : ℕ) → is_pending s h n ≡ true → n < navigations_made s h
  unfolding is_pending is_newest
  pending_below n pending =
      let newest : is_newest s h n ≡ true = and_left _ _ (and_left _ _ pending) in
      began_below s h n (and_left _ _ (and_left _ _ newest))

  ordered_number : (n p : ℕ) (site : Site) (origin : Origin) (url : List ℕ) → MayFollow rule s h (Order n p site origin url) → IsNumber p
  ordered_number n p site origin url may =
      let e : Entry = Order n p site origin url in
      let more = started_few rule s (h ++ e ∷ []) (legal_more rule s h e legal may) in
      let locks : cond {A = Option Site} (p == p) (Some site) None ≡ Some site = ap (λ b. cond {A = Option Site} b (Some site) None) (eq-eqb p p refl) in
      number p (omega (arith, more, order_started (h ++ e ∷ []) (length h) e p site (at_end h e) locks))

  local_number : (p d k : ℕ) (what : LocalWhat) → MayFollow rule s h (Local p d k what) → actions_done h d ≡ k
  unfolding next_of local_next local_in
  local_number p d k what may =
      let a = from_cond (is_current s h d) (option_and_then (local_in s h d) (process_of h d)) (Local p d k what) may in
      let b = from_then (local_in s h d) (process_of h d) (Local p d k what) a.1 in
      let c = from_cond (is_locked h b.0) (option_map (Local b.0 d (actions_done h d)) (local_what s h d (next_act s h d))) (Local p d k what) b.2 in
      let f = from_map (Local b.0 d (actions_done h d)) (local_what s h d (next_act s h d)) (Local p d k what) c.1 in
      cc

  act_number : (d : ℕ) → (next_act s h d ≡ Done → ⊥) → IsNumber (actions_done h d)
  unfolding next_act
  act_number d acts = let few = acts_few s h d (actions_done h d) limits acts in number (actions_done h d) (omega (arith, few))

  sends_something : (act : Act) (m : Message) → act ≡ Sends m → act ≡ Done → ⊥
  sends_something act m is done = cc

  does_something : (d : ℕ) (act : Act) (what : LocalWhat) → local_what s h d act ≡ Some what → act ≡ Done → ⊥
  unfolding local_what
  does_something d act what is done =
      let none : local_what s h d Done ≡ Some what = ap (local_what s h d) (sym done) ∙ is in
      cc

  sent_kept : (d : ℕ) (m : Message) → IsNumber d → next_act s h d ≡ Sends m → IsMessage m
  unfolding next_act
  sent_kept d m small sends = act_kept s h kept limits.few_pages navigations_few frames_few d (actions_done h d) m script small sends

  pub entry_kept : (e : Entry) → MayFollow rule s h e → IsEntry e
  entry_kept (Opened k) may = number k (omega (arith, (opened_row rule s h k may).1, limits.few_pages))
  entry_kept (Warm p) may = its_number (Warm p) may
  entry_kept (Hop (Nav n) url) may = (its_number (Hop (Nav n) url) may, followed_spelled s (chain_of s h n) url (navigation_hop_row rule s h n url may).goes)
  entry_kept (Hop (Req r) url) may = (its_number (Hop (Req r) url) may, followed_spelled s (request_chain h r) url (request_hop_row rule s h r url may).goes)
  entry_kept (Order n p site origin url) may =
      let row = order_row rule s h n p site origin url may in
      let small : IsNumber n = its_number (Order n p site origin url) may in
      let o : IsOrigin origin = commit_origin_kept s h kept n origin small row.origin_is in (
        small,
        ordered_number n p site origin url may,
        subst IsSite row.site_is (site_kept s.rules origin o),
        o,
        subst IsSpelled row.url_is (chain_spelled rule s script h legal kept n (pending_below n row.pending)),
      )
  entry_kept (NavEnd n why) may = its_number (NavEnd n why) may
  entry_kept (Said p d k m reply) may =
      let row = said_row rule s h p d k m reply may in
      let small : IsNumber d = its_number (Said p d k m reply) may in
      let message : IsMessage m = sent_kept d m small row.sends in
      let answered : IsKeptReply (judge rule s h p m) = reply_kept rule answers s h kept p m message in (
        process_number p row.locked,
        small,
        subst IsNumber (sym row.number) (act_number d (sends_something (next_act s h d) m row.sends)),
        message,
        subst IsReply row.judged answered.is,
      )
  entry_kept (Crash p) may = its_number (Crash p) may
  entry_kept (Commit p n origin url reply) may =
      let row = commit_row rule s h p n origin url reply may in
      let order = order_kept s h kept n _ row.ordered in
      let answered : IsKeptReply (judge_commit s h p n url origin) = commit_kept rule answers s h kept p n url origin in (
        process_number p row.locked,
        its_number (Commit p n origin url reply) may,
        order.3,
        url_is_text url order.4,
        subst IsReply row.judged answered.is,
      )
  entry_kept (Local p d k what) may =
      let row = local_row rule s h p d k what may in (
        process_number p row.locked,
        its_number (Local p d k what) may,
        subst IsNumber (local_number p d k what may) (act_number d (does_something d (next_act s h d) what row.does)),
        what_kept s h kept d (next_act s h d) what row.does,
      )
  entry_kept (Head r why) may = its_number (Head r why) may
  entry_kept (Piece r i bytes) may =
      let row = piece_row rule s h r i bytes may in
      let url = last_url (request_chain h r) in
      let piece : IsPieceOf bytes = all_at IsPieceOf (pieces (resource_at s url)) (delivered h r) bytes (resource_pieces s url script) row.bytes_are in
      let few = resource_pieces_few s url limits in
      let within = slice_get_within (pieces (resource_at s url)) (delivered h r) bytes row.bytes_are in
      let same : i ≡ delivered h r = row.number in (
        its_number (Piece r i bytes) may,
        number i (omega (arith, few, within, same)),
        piece.are_bytes,
        piece.some,
      )
  entry_kept (End r how) may = its_number (End r how) may
  entry_kept (Exit p) may = its_number (Exit p) may

pub entries_kept : (rule : ServiceRule) (s : ScriptData) → EntriesAreKept rule s
entries_kept rule s answers script limits h legal =
    legal_ind rule s (λ g. AllByRecursion IsEntry g) tt (λ g e is_legal may was. all_push IsEntry g e was (entry_kept rule answers s script limits g is_legal was e may)) h legal

-- The form of what may follow of an object: whatever holds of each entry of that form holds of it.
use Rattle.std.proofs.Common.{ap, subst}
use Rattle.std.specs.Prelude.{◌≡◌, ◌&&◌, List, None, Option, Some, count_by, filter_map, is_none, nat_lt, not, option_and_then, option_map, slice_get, ℕ}
use Rattle.std.specs.List.{list_all, list_any}
use Rattle.std.specs.Option.{option_or}
use Rattle.page_origin.specs.declared.origin.Origin.{Origin}
use Rattle.page_origin.specs.declared.site.Site.{Site}
use Rattle.site_url.specs.Sites.{site_of_origin}
use Rattle.history_entry.specs.declared.entry.EndHow.{EndHow}
use Rattle.history_entry.specs.declared.entry.Entry.{Entry}
use Rattle.history_entry.specs.declared.entry.Entry.TheVariants.{Commit, End, Exit, Head, Hop, Local, NavEnd, Opened, Order, Piece, Warm}
use Rattle.history_entry.specs.declared.entry.HopOf.TheVariants.{Nav, Req}
use Rattle.history_entry.specs.declared.entry.LocalWhat.{LocalWhat}
use Rattle.history_entry.specs.declared.reply.Reply.{Reply}
use Rattle.history_entry.specs.declared.rule.Rule.{Rule}
use Rattle.history_rules.proofs.Apart.{from_cond, from_map, from_then}
use Rattle.history_rules.specs.Choice.{choice, may_start, warm_process}
use Rattle.history_rules.specs.Documents.{actions_done, documents, is_current, is_current_in, process_of}
use Rattle.history_rules.specs.Entries.{is_opened, ordered_to}
use Rattle.history_rules.specs.Frames.{frame_of}
use Rattle.history_rules.specs.Judgement.{judge_commit}
use Rattle.history_rules.specs.Navigations.{chain_of, commit_origin, is_pending}
use Rattle.history_rules.specs.Orders.{OrderData, order_of, was_answered}
use Rattle.history_rules.specs.Processes.{is_locked, started}
use Rattle.history_rules.specs.Redirects.{hop_url, is_redirect, is_web, last_url, response}
use Rattle.history_rules.specs.Requests.{cors_fails, delivered, has_head, is_live_request, request_chain, request_verdict}
use Rattle.history_rules.specs.Sights.{next_act}
use Rattle.history_steps.specs.Deliveries.{end_how, end_next, head_by, head_next, piece_next, request_hop}
use Rattle.history_steps.specs.MayFollow.{chosen_order, commit_by, commit_next, does_commit, end_navigation_next, end_rule, exit_next, local_in, local_next, local_what, navigation_hop, open_next, order_next, order_with, warm_next}
use Rattle.script_model.specs.Pieces.{pieces}
use Rattle.script_model.specs.ResourceData.{fails_at_once}
use Rattle.script_model.specs.ScriptData.{ScriptData, starts}
use Rattle.script_model.specs.declared.verdict.Verdict.{Verdict}
use Rattle.script_model.specs.declared.verdict.Verdict.TheVariants.{Allow, Block}

module _ (s : ScriptData) (h : List Entry) (P : Entry → Type 0) where
  pub open_form : ((k : ℕ) → P (Opened k)) → (e : Entry) → open_next s h ≡ Some e → P e
  unfolding open_next
  open_form all e is =
      let a = from_cond (nat_lt (count_by is_opened h) (starts s)) (Some (Opened (count_by is_opened h))) e is in
      let form : Opened (count_by is_opened h) ≡ e = cc in
      subst P form (all (count_by is_opened h))

  pub warm_form : ((p : ℕ) → P (Warm p)) → (e : Entry) → warm_next s h ≡ Some e → P e
  unfolding warm_next
  warm_form all e is =
      let a = from_cond (s.spare && is_none (warm_process h) && may_start h) (Some (Warm (started h))) e is in
      let form : Warm (started h) ≡ e = cc in
      subst P form (all (started h))

  pub navigation_hop_form : (n : ℕ) → ((url : List ℕ) → P (Hop (Nav n) url)) → (e : Entry) → navigation_hop s h n ≡ Some e → P e
  unfolding navigation_hop
  navigation_hop_form n all e is =
      let a = from_cond (is_pending s h n && is_web (last_url (chain_of s h n))) (option_map (Hop (Nav n)) (hop_url s (chain_of s h n))) e is in
      let b = from_map (Hop (Nav n)) (hop_url s (chain_of s h n)) e a.1 in
      subst P b.2 (all b.0)

  pub request_hop_form : (r : ℕ) → ((url : List ℕ) → P (Hop (Req r) url)) → (e : Entry) → request_hop s h r ≡ Some e → P e
  unfolding request_hop
  request_hop_form r all e is =
      let a = from_cond (is_live_request s h r && not (has_head h r) && not (cors_fails s h r)) (option_map (Hop (Req r)) (hop_url s (request_chain h r))) e is in
      let b = from_map (Hop (Req r)) (hop_url s (request_chain h r)) e a.1 in
      subst P b.2 (all b.0)

  pub order_form : (n : ℕ) → ((p : ℕ) (site : Site) (origin : Origin) (url : List ℕ) → P (Order n p site origin url)) → (e : Entry) → order_next s h n ≡ Some e → P e
  unfolding order_next chosen_order order_with
  order_form n all e is =
      let a = from_cond (is_pending s h n && does_commit s (chain_of s h n)) (chosen_order s h n) e is in
      let b = from_then (order_with s h n) (commit_origin s h n) e a.1 in
      let c = from_map (λ q. Order n q (site_of_origin s.rules b.0) b.0 (last_url (chain_of s h n))) (choice s h (frame_of s h n) (site_of_origin s.rules b.0)) e b.2 in
      subst P c.2 (all c.0 (site_of_origin s.rules b.0) b.0 (last_url (chain_of s h n)))

  pub end_navigation_form : (n : ℕ) → ((why : Rule) → P (NavEnd n why)) → (e : Entry) → end_navigation_next s h n ≡ Some e → P e
  unfolding end_navigation_next
  end_navigation_form n all e is =
      let a = from_cond (is_pending s h n) (option_map (NavEnd n) (end_rule s h n)) e is in
      let b = from_map (NavEnd n) (end_rule s h n) e a.1 in
      subst P b.2 (all b.0)

  pub commit_form : (n : ℕ) → ((p : ℕ) (origin : Origin) (url : List ℕ) (reply : Reply) → P (Commit p n origin url reply)) → (e : Entry) → commit_next s h n ≡ Some e → P e
  unfolding commit_next commit_by
  commit_form n all e is =
      let b = from_then (commit_by s h n) (order_of h n) e is in
      let o : OrderData = b.0 in
      let a = from_cond (is_locked h o.process && not (was_answered h n)) (Some (Commit o.process n o.origin o.url (judge_commit s h o.process n o.url o.origin))) e b.2 in
      let form : Commit o.process n o.origin o.url (judge_commit s h o.process n o.url o.origin) ≡ e = cc in
      subst P form (all o.process o.origin o.url (judge_commit s h o.process n o.url o.origin))

  pub local_form : (d : ℕ) → ((p k : ℕ) (what : LocalWhat) → P (Local p d k what)) → (e : Entry) → local_next s h d ≡ Some e → P e
  unfolding local_next local_in
  local_form d all e is =
      let a = from_cond (is_current s h d) (option_and_then (local_in s h d) (process_of h d)) e is in
      let b = from_then (local_in s h d) (process_of h d) e a.1 in
      let c = from_cond (is_locked h b.0) (option_map (Local b.0 d (actions_done h d)) (local_what s h d (next_act s h d))) e b.2 in
      let f = from_map (Local b.0 d (actions_done h d)) (local_what s h d (next_act s h d)) e c.1 in
      subst P f.2 (all b.0 (actions_done h d) f.0)

  head_by_form : (r : ℕ) (v : Verdict) (e : Entry) → head_by r v ≡ Some e → (why : Rule) × (Head r why ≡ e)
  head_by_form r (Allow why) e is = (why, cc)
  head_by_form r (Block why) e is = absurd (cc)

  pub head_form : (r : ℕ) → ((why : Rule) → P (Head r why)) → (e : Entry) → head_next s h r ≡ Some e → P e
  unfolding head_next
  head_form r all e is =
      let a = from_cond (is_live_request s h r && not (has_head h r) && not (fails_at_once (response s (request_chain h r))) && not (is_redirect (response s (request_chain h r)))) (option_and_then (head_by r) (request_verdict s h r)) e is in
      let b = from_then (head_by r) (request_verdict s h r) e a.1 in
      let f = head_by_form r b.0 e b.2 in
      subst P f.1 (all f.0)

  pub piece_form : (r : ℕ) → ((i : ℕ) (bytes : List ℕ) → P (Piece r i bytes)) → (e : Entry) → piece_next s h r ≡ Some e → P e
  unfolding piece_next
  piece_form r all e is =
      let a = from_cond (is_live_request s h r && has_head h r) (option_map (Piece r (delivered h r)) (slice_get (pieces (response s (request_chain h r))) (delivered h r))) e is in
      let b = from_map (Piece r (delivered h r)) (slice_get (pieces (response s (request_chain h r))) (delivered h r)) e a.1 in
      subst P b.2 (all (delivered h r) b.0)

  pub end_form : (r : ℕ) → ((how : EndHow) → P (End r how)) → (e : Entry) → end_next s h r ≡ Some e → P e
  unfolding end_next
  end_form r all e is =
      let a = from_cond (is_live_request s h r) (option_map (End r) (end_how s h r)) e is in
      let b = from_map (End r) (end_how s h r) e a.1 in
      subst P b.2 (all b.0)

  pub exit_form : (p : ℕ) → P (Exit p) → (e : Entry) → exit_next s h p ≡ Some e → P e
  unfolding exit_next
  exit_form p all e is =
      let a = from_cond (is_locked h p && not (list_any (is_current_in s h p) (documents s h)) && list_all (was_answered h) (filter_map (ordered_to p) h)) (Some (Exit p)) e is in
      let form : Exit p ≡ e = cc in
      subst P form all

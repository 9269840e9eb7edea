-- The next entries but those of messages are no messages, so no service was asked.
use Rattle.std.proofs.Common.{ap, sym}
use Rattle.std.specs.Prelude.{◌≡◌, ◌&&◌, List, Some, count_by, false, filter_map, is_none, nat_lt, not, option_and_then, option_map, slice_get, ℕ}
use Rattle.std.specs.List.{list_all, list_any}
use Rattle.site_url.specs.Sites.{site_of_origin}
use Rattle.history_entry.specs.declared.entry.Entry.{Entry}
use Rattle.history_entry.specs.declared.entry.Entry.TheVariants.{Commit, Crash, End, Exit, Head, Hop, Local, NavEnd, Opened, Order, Piece, Warm}
use Rattle.history_entry.specs.declared.entry.HopOf.TheVariants.{Nav, Req}
use Rattle.script_model.specs.Pieces.{pieces}
use Rattle.script_model.specs.ResourceData.{fails_at_once}
use Rattle.script_model.specs.ScriptData.{ScriptData, starts}
use Rattle.script_model.specs.declared.verdict.Verdict.{Verdict}
use Rattle.script_model.specs.declared.verdict.Verdict.TheVariants.{Allow, Block}
use Rattle.history_rules.proofs.Apart.{from_cond, from_map, from_then}
use Rattle.history_rules.specs.Choice.{choice, may_start, warm_process}
use Rattle.history_rules.specs.Documents.{actions_done, documents, is_current, is_current_in, process_of}
use Rattle.history_rules.specs.Entries.{is_opened, ordered_to}
use Rattle.history_rules.specs.Frames.{frame_of}
use Rattle.history_rules.specs.Judgement.{judge_commit}
use Rattle.history_rules.specs.Navigations.{chain_of, commit_origin, is_pending}
use Rattle.history_rules.specs.Orders.{OrderData, had_order, order_of, was_answered}
use Rattle.history_rules.specs.Processes.{is_locked, started}
use Rattle.history_rules.specs.Redirects.{hop_url, is_redirect, is_web, last_url, response}
use Rattle.history_rules.specs.Requests.{cors_fails, delivered, has_head, is_live_request, request_chain, request_verdict}
use Rattle.history_rules.specs.Sights.{next_act}
use Rattle.history_steps.specs.Deliveries.{end_how, end_next, head_by, head_next, piece_next, request_hop}
use Rattle.history_steps.specs.MayFollow.{chosen_order, commit_by, commit_next, crash_next, does_commit, end_navigation_next, end_rule, exit_next, is_crash, local_in, local_next, local_what, navigation_hop, open_next, order_next, order_with, warm_next}
use Rattle.history_steps.specs.Nexts.{commit_in_process}
use Rattle.history.specs.Kinds.{next_by}
use Rattle.history.specs.declared.kinds.Listed.{Listed}
use Rattle.history.specs.declared.kinds.Listed.TheVariants.{CommitsIn, Crashes, Ends, Exits, Heads, Locals, NavigationEnds, NavigationHops, Orders, Pieces, RequestHops}
use Rattle.browser_tasks.specs.Candidates.{is_said}

module _ (s : ScriptData) (h : List Entry) where
  pub quiet_open : (e : Entry) → open_next s h ≡ Some e → is_said e ≡ false
  unfolding open_next
  quiet_open e is =
      let a = from_cond (nat_lt (count_by is_opened h) (starts s)) (Some (Opened (count_by is_opened h))) e is in
      let form : Opened (count_by is_opened h) ≡ e = cc in
      sym (ap is_said form)

  pub quiet_warm : (e : Entry) → warm_next s h ≡ Some e → is_said e ≡ false
  unfolding warm_next
  quiet_warm e is =
      let a = from_cond (s.spare && is_none (warm_process h) && may_start h) (Some (Warm (started h))) e is in
      let form : Warm (started h) ≡ e = cc in
      sym (ap is_said form)

  quiet_navigation_hop : (n : ℕ) (e : Entry) → navigation_hop s h n ≡ Some e → is_said e ≡ false
  unfolding navigation_hop
  quiet_navigation_hop n e is =
      let a = from_cond (is_pending s h n && is_web (last_url (chain_of s h n))) (option_map (Hop (Nav n)) (hop_url s (chain_of s h n))) e is in
      let b = from_map (Hop (Nav n)) (hop_url s (chain_of s h n)) e a.1 in
      sym (ap is_said b.2)

  quiet_request_hop : (r : ℕ) (e : Entry) → request_hop s h r ≡ Some e → is_said e ≡ false
  unfolding request_hop
  quiet_request_hop r e is =
      let a = from_cond (is_live_request s h r && not (has_head h r) && not (cors_fails s h r)) (option_map (Hop (Req r)) (hop_url s (request_chain h r))) e is in
      let b = from_map (Hop (Req r)) (hop_url s (request_chain h r)) e a.1 in
      sym (ap is_said b.2)

  quiet_order : (n : ℕ) (e : Entry) → order_next s h n ≡ Some e → is_said e ≡ false
  unfolding order_next chosen_order order_with
  quiet_order n e is =
      let a = from_cond (is_pending s h n && does_commit s (chain_of s h n)) (chosen_order s h n) e is in
      let b = from_then (order_with s h n) (commit_origin s h n) e a.1 in
      let c = from_map (λ q. Order n q (site_of_origin s.rules b.0) b.0 (last_url (chain_of s h n))) (choice s h (frame_of s h n) (site_of_origin s.rules b.0)) e b.2 in
      sym (ap is_said c.2)

  quiet_end_navigation : (n : ℕ) (e : Entry) → end_navigation_next s h n ≡ Some e → is_said e ≡ false
  unfolding end_navigation_next
  quiet_end_navigation n e is =
      let a = from_cond (is_pending s h n) (option_map (NavEnd n) (end_rule s h n)) e is in
      let b = from_map (NavEnd n) (end_rule s h n) e a.1 in
      sym (ap is_said b.2)

  quiet_crash : (p : ℕ) (e : Entry) → crash_next s h p ≡ Some e → is_said e ≡ false
  unfolding crash_next
  quiet_crash p e is =
      let a = from_cond (list_any (λ d. is_current_in s h p d && is_crash (next_act s h d)) (documents s h)) (Some (Crash p)) e is in
      let form : Crash p ≡ e = cc in
      sym (ap is_said form)

  quiet_commit : (n : ℕ) (e : Entry) → commit_next s h n ≡ Some e → is_said e ≡ false
  unfolding commit_next commit_by
  quiet_commit n e is =
      let b = from_then (commit_by s h n) (order_of h n) e is in
      let o : OrderData = b.0 in
      let a = from_cond (is_locked h o.process && not (was_answered h n)) (Some (Commit o.process n o.origin o.url (judge_commit s h o.process n o.url o.origin))) e b.2 in
      let form : Commit o.process n o.origin o.url (judge_commit s h o.process n o.url o.origin) ≡ e = cc in
      sym (ap is_said form)

  quiet_commit_in : (p n : ℕ) (e : Entry) → commit_in_process s h p n ≡ Some e → is_said e ≡ false
  unfolding commit_in_process
  quiet_commit_in p n e is = quiet_commit n e (from_cond (had_order h p n) (commit_next s h n) e is).1

  quiet_local : (d : ℕ) (e : Entry) → local_next s h d ≡ Some e → is_said e ≡ false
  unfolding local_next local_in
  quiet_local d e is =
      let a = from_cond (is_current s h d) (option_and_then (local_in s h d) (process_of h d)) e is in
      let b = from_then (local_in s h d) (process_of h d) e a.1 in
      let c = from_cond (is_locked h b.0) (option_map (Local b.0 d (actions_done h d)) (local_what s h d (next_act s h d))) e b.2 in
      let f = from_map (Local b.0 d (actions_done h d)) (local_what s h d (next_act s h d)) e c.1 in
      sym (ap is_said f.2)

  head_is_quiet : (r : ℕ) (v : Verdict) (e : Entry) → head_by r v ≡ Some e → is_said e ≡ false
  head_is_quiet r (Allow why) e is =
      let form : Head r why ≡ e = cc in
      sym (ap is_said form)
  head_is_quiet r (Block why) e is = absurd (cc)

  quiet_head : (r : ℕ) (e : Entry) → head_next s h r ≡ Some e → is_said e ≡ false
  unfolding head_next
  quiet_head r e is =
      let a = from_cond (is_live_request s h r && not (has_head h r) && not (fails_at_once (response s (request_chain h r))) && not (is_redirect (response s (request_chain h r)))) (option_and_then (head_by r) (request_verdict s h r)) e is in
      let b = from_then (head_by r) (request_verdict s h r) e a.1 in
      head_is_quiet r b.0 e b.2

  quiet_piece : (r : ℕ) (e : Entry) → piece_next s h r ≡ Some e → is_said e ≡ false
  unfolding piece_next
  quiet_piece r e is =
      let a = from_cond (is_live_request s h r && has_head h r) (option_map (Piece r (delivered h r)) (slice_get (pieces (response s (request_chain h r))) (delivered h r))) e is in
      let b = from_map (Piece r (delivered h r)) (slice_get (pieces (response s (request_chain h r))) (delivered h r)) e a.1 in
      sym (ap is_said b.2)

  quiet_end : (r : ℕ) (e : Entry) → end_next s h r ≡ Some e → is_said e ≡ false
  unfolding end_next
  quiet_end r e is =
      let a = from_cond (is_live_request s h r) (option_map (End r) (end_how s h r)) e is in
      let b = from_map (End r) (end_how s h r) e a.1 in
      sym (ap is_said b.2)

  quiet_exit : (p : ℕ) (e : Entry) → exit_next s h p ≡ Some e → is_said e ≡ false
  unfolding exit_next
  quiet_exit p e is =
      let a = from_cond (is_locked h p && not (list_any (is_current_in s h p) (documents s h)) && list_all (was_answered h) (filter_map (ordered_to p) h)) (Some (Exit p)) e is in
      let form : Exit p ≡ e = cc in
      sym (ap is_said form)

  pub quiet_by : (listed : Listed) (n : ℕ) (e : Entry) → next_by s h listed n ≡ Some e → is_said e ≡ false
  quiet_by NavigationHops n e is = quiet_navigation_hop n e is
  quiet_by Orders n e is = quiet_order n e is
  quiet_by NavigationEnds n e is = quiet_end_navigation n e is
  quiet_by (CommitsIn p) n e is = quiet_commit_in p n e is
  quiet_by Locals n e is = quiet_local n e is
  quiet_by RequestHops n e is = quiet_request_hop n e is
  quiet_by Heads n e is = quiet_head n e is
  quiet_by Pieces n e is = quiet_piece n e is
  quiet_by Ends n e is = quiet_end n e is
  quiet_by Crashes n e is = quiet_crash n e is
  quiet_by Exits n e is = quiet_exit n e is

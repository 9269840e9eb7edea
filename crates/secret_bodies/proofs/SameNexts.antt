-- Which entry of an object may follow is the same after a change of the bytes of pieces and of a secret body, but for a piece.
use Rattle.std.proofs.Common.{refl}
use Rattle.std.specs.Prelude.{◌≡◌, ◌&&◌, ◌||◌, if◌then◌else◌, List, None, Option, Some, is_none, length, nat_le, nat_lt, not, option_and_then, option_map, slice_get, ℕ, unwrap_or, []}
use Rattle.std.specs.List.{list_all, list_any}
use Rattle.std.specs.Result.{result_ok}
use Rattle.page_origin.specs.PageUrls.{join_url_of}
use Rattle.page_origin.specs.declared.origin.Origin.{Origin}
use Rattle.site_url.specs.Sites.{site_of_origin}
use Rattle.history_entry.specs.declared.entry.EndHow.TheVariants.{Blocked as WasBlocked, Failed as WasCut}
use Rattle.history_entry.specs.declared.entry.Entry.{Entry}
use Rattle.history_entry.specs.declared.entry.Entry.TheVariants.{Commit, Crash, End, Exit, Head, Hop, Local, NavEnd, Opened, Order, Piece, Said, Warm}
use Rattle.history_entry.specs.declared.entry.HopOf.TheVariants.{Nav, Req}
use Rattle.history_entry.specs.declared.entry.LocalWhat.TheVariants.{Took, Waited}
use Rattle.history_entry.specs.declared.rule.Rule.TheVariants.{B1, F1, N5, N6, N7, N8}
use Rattle.history_rules.specs.Orders.{OrderData, answers, was_answered}
use Rattle.script_model.specs.ResourceData.{fails_at_once, ResourceData}
use Rattle.script_model.specs.ScriptData.{ScriptData, find_resource, starts}
use Rattle.script_model.specs.declared.post.Posted.{Posted}
use Rattle.script_model.specs.declared.verdict.Verdict.{Verdict}
use Rattle.script_model.specs.declared.verdict.Verdict.TheVariants.{Allow, Block}
use Rattle.history_rules.specs.Entries.{is_opened, ordered_to}
use Rattle.script_model.specs.Pieces.{pieces}
use Rattle.history_rules.specs.Redirects.{has_no_content, hop_url, is_redirect, is_spent, is_web, last_url, location_of, response}
use Rattle.service_rule.specs.Services.{ServiceRule}
use Rattle.history_rules.specs.declared.act.Act.{Act}
use Rattle.history_rules.specs.declared.act.Act.TheVariants.{Message as Sends, Recv as Receives, Skip, Wait as Waits}
use Rattle.history_steps.specs.Deliveries.{body_end, end_how, end_next, head_by, head_next, redirect_end, request_hop, wire_end}
use Rattle.history_steps.specs.MayFollow.{chosen_order, commit_by, commit_next, crash_next, does_commit, end_navigation_next, end_rule, exit_next, is_crash, local_in, local_next, local_what, navigation_hop, next_of, open_next, order_next, order_with, redirect_rule, response_rule, said_in, said_next, said_of, warm_next}
use Rattle.history_laws.specs.Secret.{IsSecretBody, with_body, with_own_body}
use Rattle.secret_bodies.proofs.Bodies.{pieces_length}
use Rattle.secret_bodies.proofs.Changed.{NewBytes, after, any_same, count_same, filter_map_same}
use Rattle.secret_bodies.proofs.SameFrames.{actions_done_same, chain_of_same, commit_origin_same, documents_same, frame_of_same, is_current_in_same, is_current_same, is_locked_same, is_pending_same, order_of_same, process_of_same, started_same}
use Rattle.secret_bodies.proofs.SameWords.{choice_same, cors_fails_same, delivered_same, has_head_same, has_live_request_same, inbox_same, is_live_request_same, judge_commit_same, judge_same, may_start_same, next_act_same, request_chain_same, request_verdict_same, response_same, warm_process_same}

module _ (rule : ServiceRule) (to : NewBytes) (s : ScriptData) (key body : List ℕ) (h : List Entry) (res : ResourceData) (found : find_resource s key ≡ Some res) (secret : IsSecretBody s.policy res body) where
  abbrev s2 : ScriptData
  s2 = with_body s key body

  abbrev h2 : List Entry
  h2 = after to h

  -- what reads no body of a chain's response
  by_chain : {A : Type 0} (F : ResourceData → A) → F (with_own_body body res) ≡ F res → (chain : List (List ℕ)) → F (response s2 chain) ≡ F (response s chain)
  by_chain F is chain = response_same to s key body h res found secret F is chain

  hop_url_same : (chain : List (List ℕ)) → hop_url s2 chain ≡ hop_url s chain
  unfolding hop_url
  hop_url_same chain = by_chain (λ x.
      if fails_at_once x || not (is_redirect x) || is_spent chain then None
      else option_and_then (λ url. if is_web url then Some url else None) (result_ok (join_url_of (last_url chain) (unwrap_or (location_of x) [])))) refl chain

  does_commit_same : (chain : List (List ℕ)) → does_commit s2 chain ≡ does_commit s chain
  does_commit_same chain = by_chain (λ x. not (is_web (last_url chain)) || (not (fails_at_once x) && not (is_redirect x) && not (has_no_content x))) refl chain

  response_rule_same : (chain : List (List ℕ)) → response_rule s2 chain ≡ response_rule s chain
  response_rule_same chain = by_chain (λ x.
      if fails_at_once x then Some N7
      else if is_redirect x then (if is_spent chain then Some N5 else redirect_rule (result_ok (join_url_of (last_url chain) (unwrap_or (location_of x) []))))
      else if has_no_content x then Some N8
      else None) refl chain

  open_next_same : open_next s2 h2 ≡ open_next s h
  unfolding open_next
  open_next_same = λ i. if nat_lt (count_same to is_opened (λ r n a b. refl) h i) (starts s) then Some (Opened (count_same to is_opened (λ r n a b. refl) h i)) else None

  warm_next_same : warm_next s2 h2 ≡ warm_next s h
  unfolding warm_next
  warm_next_same = λ i. if s.spare && is_none (warm_process_same to s key body h i) && may_start_same to s key body h i then Some (Warm (started_same to s key body h i)) else None

  navigation_hop_same : (n : ℕ) → navigation_hop s2 h2 n ≡ navigation_hop s h n
  unfolding navigation_hop
  navigation_hop_same n = λ i. if is_pending_same to s key body h n i && is_web (last_url (chain_of_same to s key body h n i))
      then option_map (Hop (Nav n)) (hop_url_same (chain_of_same to s key body h n i) i) else None

  order_with_same : (n : ℕ) (origin : Origin) → order_with s2 h2 n origin ≡ order_with s h n origin
  unfolding order_with
  order_with_same n origin = λ i. option_map (λ p. Order n p (site_of_origin s.rules origin) origin (last_url (chain_of_same to s key body h n i))) (choice_same to s key body h (frame_of_same to s key body h n i) (site_of_origin s.rules origin) i)

  chosen_order_same : (n : ℕ) → chosen_order s2 h2 n ≡ chosen_order s h n
  unfolding chosen_order
  chosen_order_same n = λ i. option_and_then (λ origin. order_with_same n origin i) (commit_origin_same to s key body h n i)

  order_next_same : (n : ℕ) → order_next s2 h2 n ≡ order_next s h n
  unfolding order_next
  order_next_same n = λ i. if is_pending_same to s key body h n i && does_commit_same (chain_of_same to s key body h n i) i then chosen_order_same n i else None

  end_rule_same : (n : ℕ) → end_rule s2 h2 n ≡ end_rule s h n
  unfolding end_rule
  end_rule_same n = λ i. if does_commit_same (chain_of_same to s key body h n i) i then (if is_none (chosen_order_same n i) then Some N6 else None) else response_rule_same (chain_of_same to s key body h n i) i

  end_navigation_next_same : (n : ℕ) → end_navigation_next s2 h2 n ≡ end_navigation_next s h n
  unfolding end_navigation_next
  end_navigation_next_same n = λ i. if is_pending_same to s key body h n i then option_map (NavEnd n) (end_rule_same n i) else None

  said_of_same : (p d : ℕ) (act : Act) → said_of rule s2 h2 p d act ≡ said_of rule s h p d act
  said_of_same p d (Sends m) = λ i. Some (Said p d (actions_done_same to s key body h d i) m (judge_same to s key body h rule p m i))
  said_of_same p d _ = refl

  said_in_same : (d p : ℕ) → said_in rule s2 h2 d p ≡ said_in rule s h d p
  unfolding said_in
  said_in_same d p = λ i. if is_locked_same to s key body h p i then said_of_same p d (next_act_same to s key body h d i) i else None

  said_next_same : (d : ℕ) → said_next rule s2 h2 d ≡ said_next rule s h d
  unfolding said_next
  said_next_same d = λ i. if is_current_same to s key body h d i then option_and_then (λ p. said_in_same d p i) (process_of_same to s key body h d i) else None

  crash_next_same : (p : ℕ) → crash_next s2 h2 p ≡ crash_next s h p
  unfolding crash_next
  crash_next_same p = λ i. if list_any (λ d. is_current_in_same to s key body h p d i && is_crash (next_act_same to s key body h d i)) (documents_same to s key body h i) then Some (Crash p) else None

  commit_by_same : (n : ℕ) (order : OrderData) → commit_by s2 h2 n order ≡ commit_by s h n order
  unfolding commit_by was_answered
  commit_by_same n order = λ i. if is_locked_same to s key body h order.process i && not (any_same to (answers n) (λ r n a b. refl) h i)
      then Some (Commit order.process n order.origin order.url (judge_commit_same to s key body h order.process n order.url order.origin i)) else None

  commit_next_same : (n : ℕ) → commit_next s2 h2 n ≡ commit_next s h n
  unfolding commit_next
  commit_next_same n = λ i. option_and_then (λ order. commit_by_same n order i) (order_of_same to s key body h n i)

  local_what_same : (d : ℕ) (act : Act) → local_what s2 h2 d act ≡ local_what s h d act
  unfolding local_what
  local_what_same d Waits = λ i. if has_live_request_same to s key body h d i then None else Some Waited
  local_what_same d Receives = λ i. option_map (λ (post : Posted). Took post.source post.text) (slice_get (inbox_same to s key body h d i) 0)
  local_what_same d Skip = refl
  local_what_same d _ = refl

  local_in_same : (d p : ℕ) → local_in s2 h2 d p ≡ local_in s h d p
  unfolding local_in
  local_in_same d p = λ i. if is_locked_same to s key body h p i then option_map (Local p d (actions_done_same to s key body h d i)) (local_what_same d (next_act_same to s key body h d i) i) else None

  local_next_same : (d : ℕ) → local_next s2 h2 d ≡ local_next s h d
  unfolding local_next
  local_next_same d = λ i. if is_current_same to s key body h d i then option_and_then (λ p. local_in_same d p i) (process_of_same to s key body h d i) else None

  exit_next_same : (p : ℕ) → exit_next s2 h2 p ≡ exit_next s h p
  unfolding exit_next was_answered
  exit_next_same p = λ i.
      if is_locked_same to s key body h p i && not (list_any (λ d. is_current_in_same to s key body h p d i) (documents_same to s key body h i))
      && list_all (λ n. any_same to (answers n) (λ r n a b. refl) h i) (filter_map_same to (ordered_to p) (λ r n a b. refl) h i)
      then Some (Exit p) else None

  request_hop_same : (r : ℕ) → request_hop s2 h2 r ≡ request_hop s h r
  unfolding request_hop
  request_hop_same r = λ i. if is_live_request_same to s key body h r i && not (has_head_same to s key body h r i) && not (cors_fails_same to s key body h res found secret r i)
      then option_map (Hop (Req r)) (hop_url_same (request_chain_same to s key body h r i) i) else None

  head_next_same : (r : ℕ) → head_next s2 h2 r ≡ head_next s h r
  unfolding head_next
  head_next_same r = λ i.
      if is_live_request_same to s key body h r i && not (has_head_same to s key body h r i) && not (by_chain fails_at_once refl (request_chain_same to s key body h r i) i) && not (by_chain is_redirect refl (request_chain_same to s key body h r i) i)
      then option_and_then (head_by r) (request_verdict_same to s key body h res found secret r i) else None

  redirect_end_same : (r : ℕ) → redirect_end s2 h2 r ≡ redirect_end s h r
  unfolding redirect_end
  redirect_end_same r = λ i.
      if cors_fails_same to s key body h res found secret r i then Some (WasBlocked B1)
      else if is_spent (request_chain_same to s key body h r i) then Some (WasCut N5)
      else if is_none (hop_url_same (request_chain_same to s key body h r i) i) then Some (WasCut F1)
      else None

  body_end_same : (r : ℕ) (v : Option Verdict) → body_end s2 h2 r v ≡ body_end s h r v
  unfolding body_end
  body_end_same r (Some (Block why)) = refl
  body_end_same r None = refl
  body_end_same r (Some (Allow why)) = λ i.
      if has_head_same to s key body h r i && nat_le (by_chain (λ x. length (pieces x)) (pieces_length s key body res found secret) (request_chain_same to s key body h r i) i) (delivered_same to s key body h r i)
      then Some (by_chain wire_end refl (request_chain_same to s key body h r i) i) else None

  end_how_same : (r : ℕ) → end_how s2 h2 r ≡ end_how s h r
  unfolding end_how
  end_how_same r = λ i.
      if by_chain fails_at_once refl (request_chain_same to s key body h r i) i then Some (WasCut N7)
      else if by_chain is_redirect refl (request_chain_same to s key body h r i) i then redirect_end_same r i
      else body_end_same r (request_verdict_same to s key body h res found secret r i) i

  end_next_same : (r : ℕ) → end_next s2 h2 r ≡ end_next s h r
  unfolding end_next
  end_next_same r = λ i. if is_live_request_same to s key body h r i then option_map (End r) (end_how_same r i) else None

  -- no piece
  abbrev pub IsNoPiece : Entry → Type 0
  IsNoPiece (Piece r i bytes) = ⊥
  IsNoPiece e = Unit {0}

  pub next_same : (e : Entry) → IsNoPiece e → next_of rule s2 h2 e ≡ next_of rule s h e
  unfolding next_of
  next_same (Opened k) piece = open_next_same
  next_same (Warm p) piece = warm_next_same
  next_same (Hop (Nav n) url) piece = navigation_hop_same n
  next_same (Hop (Req r) url) piece = request_hop_same r
  next_same (Order n p site origin url) piece = order_next_same n
  next_same (NavEnd n why) piece = end_navigation_next_same n
  next_same (Said p d k message reply) piece = said_next_same d
  next_same (Crash p) piece = crash_next_same p
  next_same (Commit p n origin url reply) piece = commit_next_same n
  next_same (Local p d k what) piece = local_next_same d
  next_same (Head r why) piece = head_next_same r
  next_same (Piece r i bytes) piece = absurd piece
  next_same (End r how) piece = end_next_same r
  next_same (Exit p) piece = exit_next_same p

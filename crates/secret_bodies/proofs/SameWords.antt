-- Requests, inboxes, services, sights, the choice of a process and the judgement are the same after a change of the bytes of pieces
-- and of a secret body.
use Rattle.std.proofs.Common.{refl, sym, ◌∙◌, ap}
use Rattle.std.specs.Prelude.{◌≡◌, ◌==◌, ◌&&◌, ◌||◌, ◌∷◌, [], if◌then◌else◌, Err, List, None, Ok, Option, Result, Some, bytes_eq, drop, false, filter, filter_map, is_some, nat_le, nat_lt, not, option_and_then, option_map, slice_get, take, ℕ}
use Rattle.std.specs.List.{find, list_any, range_with_len}
use Rattle.std.specs.Option.{option_map_or, option_or}
use Rattle.std.proofs.lemmas.Option.{slice_get-map}
use Rattle.page_origin.specs.Origins.{same_origin}
use Rattle.page_origin.specs.PageUrls.{class_of, key_of, page_url_of}
use Rattle.page_origin.specs.declared.origin.Origin.{Origin}
use Rattle.page_origin.specs.declared.origin.Origin.TheVariants.{Opaque, Tuple}
use Rattle.page_origin.specs.declared.origin.TupleOrigin.{TupleOrigin}
use Rattle.page_origin.specs.declared.page.UrlRefusal.{UrlRefusal}
use Rattle.page_origin.specs.declared.site.Site.{Site}
use Rattle.site_url.specs.Sites.{admits}
use Rattle.cors_check.specs.Cors.{cors}
use Rattle.history_entry.specs.declared.body.Body.{Body}
use Rattle.history_entry.specs.declared.body.Body.TheVariants.{AddFrame, Ask, DidCommit, Fetch, Navigate, OpenPage, Post, RemoveFrame}
use Rattle.history_entry.specs.declared.body.Message.{Message}
use Rattle.history_entry.specs.declared.body.Mode.TheVariants.{NoCors}
use Rattle.history_entry.specs.declared.body.Src.{Src}
use Rattle.history_entry.specs.declared.body.Src.TheVariants.{Doc as FromDoc, Url as FromUrl}
use Rattle.history_entry.specs.declared.body.Target.{Target}
use Rattle.history_entry.specs.declared.body.Target.TheVariants.{Any, Of, Own as OwnOrigin}
use Rattle.history_entry.specs.declared.entry.Entry.{Entry}
use Rattle.history_entry.specs.declared.reply.Reply.TheVariants.{Deny, Drop, Kill, Ok as Okay}
use Rattle.history_entry.specs.declared.rule.Rule.TheVariants.{F1, G1, G2, G3, K1, K2, K3, K4, K5, K6, K7, K8, L1, L2, M2, N1, N3, N4, N9}
use Rattle.script_model.specs.ResourceData.{ResourceData}
use Rattle.script_model.specs.ScriptData.{ScriptData, find_resource}
use Rattle.script_model.specs.Verdicts.{is_cors, is_failed}
use Rattle.history_rules.specs.Actions.{act_in, act_of_action, action_in}
use Rattle.history_rules.specs.Choice.{choice, may_start, process_in_group, process_of_site, serves_document, serves_group, serves_order, warm_process}
use Rattle.history_rules.specs.Documents.{document_in}
use Rattle.history_rules.specs.Entries.{accepted, makes_request}
use Rattle.history_rules.specs.Inboxes.{PostData, inbox, post_at, post_in, posts_to, takes}
use Rattle.history_rules.specs.Judgement.{ask_origin, compare_order, count_row, in_group, is_did_commit, is_own_origin, is_web_text, judge, judge_add_frame, judge_ask, judge_body, judge_commit, judge_fetch, judge_navigate, judge_open_page, judge_post, judge_receiver, judge_remove_frame, lock_admits, may_load, read_url_rows, reply_of_answer, src_rows, takes_origin, url_rows}
use Rattle.history_rules.specs.Redirects.{last_url, response}
use Rattle.history_rules.specs.Requests.{cors_fails, delivered, fetched_mode, fetched_url, has_end, has_head, has_live_request, head_in, hop_of_request, is_end_of, is_live_request, is_piece_of, is_read_chain, is_request_of, request_chain, request_document, request_maker, request_mode, request_origin, request_verdict, requests, requests_made, response_verdict, head_of}
use Rattle.service_rule.specs.Services.{ServiceRule}
use Rattle.history_rules.specs.Services.{accepted_requests, asked_in}
use Rattle.history_rules.specs.Sights.{added_by, body_srcdoc, is_srcdoc, next_act, resource_number, resource_of_document, sight_of, sight_with, srcdoc_of, act_of}
use Rattle.history_rules.specs.declared.act.Act.TheVariants.{Done}
use Rattle.history_rules.specs.declared.sight.Sight.{Sight}
use Rattle.history_laws.specs.KillLaw.{is_request_in}
use Rattle.history_laws.specs.Secret.{IsSecretBody, with_body, with_body_at, with_own_body}
use Rattle.secret_bodies.proofs.Bodies.{at_same, position_mapped, resource_same, verdict_same}
use Rattle.secret_bodies.proofs.Changed.{NewBytes, after, any_same, count_same, filter_map_same, filter_same, get_same, length_same, match_same, take_same}
use Rattle.secret_bodies.proofs.SameFrames.{actions_done_same, adder_of_same, current_documents_same, document_in_same, document_url_same, documents_same, frame_maker_same, frame_of_same, frames_made_same, group_of_same, had_order_same, hosted_same, is_child_same, is_current_in_same, is_current_same, is_in_group_same, is_locked_to_same, is_present_same, is_sandboxed_same, is_waiting_same, is_warm_same, live_count_same, lock_of_same, may_navigate_same, navigations_made_same, opener_of_same, order_of_same, origin_of_same, parent_of_same, processes_same, share_group_same, started_same, top_of_same}

module _ (to : NewBytes) (s : ScriptData) (key body : List ℕ) (h : List Entry) where
  abbrev s2 : ScriptData
  s2 = with_body s key body

  abbrev h2 : List Entry
  h2 = after to h

  -- requests
  pub requests_made_same : requests_made h2 ≡ requests_made h
  requests_made_same = count_same to makes_request (λ r n a b. refl) h

  pub requests_same : requests h2 ≡ requests h
  requests_same = λ i. range_with_len 0 (requests_made_same i)

  pub request_maker_same : (r : ℕ) → request_maker h2 r ≡ request_maker h r
  unfolding request_maker
  request_maker_same r = λ i. option_and_then accepted (slice_get (filter_same to makes_request (λ r n a. refl) h i) r)

  pub request_document_same : (r : ℕ) → request_document h2 r ≡ request_document h r
  request_document_same r = λ i. option_map (λ (m : Message). m.document) (request_maker_same r i)

  pub request_origin_same : (r : ℕ) → request_origin h2 r ≡ request_origin h r
  unfolding request_origin
  request_origin_same r = λ i. option_and_then (λ d. origin_of_same to s key body h d i) (request_document_same r i)

  pub request_mode_same : (r : ℕ) → request_mode h2 r ≡ request_mode h r
  request_mode_same r = λ i. option_map_or (λ (m : Message). fetched_mode m.body) (request_maker_same r i) NoCors

  pub request_chain_same : (r : ℕ) → request_chain h2 r ≡ request_chain h r
  unfolding request_chain
  request_chain_same r = λ i. option_map_or (λ (m : Message). fetched_url m.body) (request_maker_same r i) [] ∷ filter_map_same to (hop_of_request r) (λ r n a b. refl) h i

  pub has_head_same : (r : ℕ) → has_head h2 r ≡ has_head h r
  unfolding has_head head_of
  has_head_same r = λ i. is_some (match_same to (head_in r) (λ r n a b. refl) h i)

  pub has_end_same : (r : ℕ) → has_end h2 r ≡ has_end h r
  unfolding has_end
  has_end_same r = any_same to (is_end_of r) (λ r n a b. refl) h

  pub delivered_same : (r : ℕ) → delivered h2 r ≡ delivered h r
  unfolding delivered
  delivered_same r = count_same to (is_piece_of r) (λ r n a b. refl) h

  pub is_live_request_same : (r : ℕ) → is_live_request s2 h2 r ≡ is_live_request s h r
  unfolding is_live_request
  is_live_request_same r = λ i. option_map_or (λ d. is_current_same to s key body h d i) (request_document_same r i) false && not (has_end_same r i)

  is_request_of_same : (d r : ℕ) → is_request_of s2 h2 d r ≡ is_request_of s h d r
  is_request_of_same d r = λ i. is_live_request_same r i && option_map_or (λ document. document == d) (request_document_same r i) false

  pub has_live_request_same : (d : ℕ) → has_live_request s2 h2 d ≡ has_live_request s h d
  unfolding has_live_request
  has_live_request_same d = λ i. list_any (λ r. is_request_of_same d r i) (requests_same i)

  pub is_request_in_same : (p r : ℕ) → is_request_in h2 p r ≡ is_request_in h p r
  is_request_in_same p r = λ i. option_map_or (λ d. hosted_same to s key body h p d i) (request_document_same r i) false

  -- inboxes
  post_here_same : (n : ℕ) → option_and_then post_in (slice_get h2 n) ≡ option_and_then post_in (slice_get h n)
  post_here_same n = flat (slice_get h2 n) ∙ ap (option_and_then (λ (o : Option PostData). o)) (get_same to post_in (λ r n a b. refl) h n) ∙ sym (flat (slice_get h n))
    where
      flat : (o : Option Entry) → option_and_then post_in o ≡ option_and_then (λ (o : Option PostData). o) (option_map post_in o)
      flat None = refl
      flat (Some e) = refl

  document_then_same : (n f : ℕ) → document_in s2 (take n h2) f ≡ document_in s (take n h) f
  document_then_same n f = ap (λ g. document_in s2 g f) (take_same to n h) ∙ document_in_same to s key body (take n h) f

  post_at_same : (d n : ℕ) → post_at s2 h2 d n ≡ post_at s h d n
  post_at_same d n = λ i. option_and_then
      (λ (post : PostData). if option_map_or (λ c. c == d) (document_then_same n post.frame i) false then Some post.posted else None)
      (post_here_same n i)

  posts_to_same : (d : ℕ) → posts_to s2 h2 d ≡ posts_to s h d
  unfolding posts_to
  posts_to_same d = λ i. filter_map (λ n. post_at_same d n i) (range_with_len 0 (length_same to h i))

  pub inbox_same : (d : ℕ) → inbox s2 h2 d ≡ inbox s h d
  unfolding inbox
  inbox_same d = λ i. if is_current_same to s key body h d i then drop (count_same to (takes d) (λ r n a b. refl) h i) (posts_to_same d i) else []

  -- services
  accepted_requests_same : (name : List ℕ) (tuple : TupleOrigin) → accepted_requests h2 name tuple ≡ accepted_requests h name tuple
  unfolding accepted_requests
  accepted_requests_same name tuple = filter_map_same to (asked_in name tuple) (λ r n a b. refl) h

  -- sights
  srcdoc_of_same : (f : ℕ) → srcdoc_of s2 h2 f ≡ srcdoc_of s h f
  srcdoc_of_same f = λ i. option_and_then (λ (m : Message). body_srcdoc m.body) (frame_maker_same to s key body h f i)

  resource_number_same : (url : List ℕ) → resource_number s2 url ≡ resource_number s url
  resource_number_same url = position_mapped (λ r. bytes_eq (key_of r.url) (key_of url)) (with_body_at key body) (λ x. at_same s key body (λ y. bytes_eq (key_of y.url) (key_of url)) x refl) s.resources

  resource_of_document_same : (d : ℕ) → resource_of_document s2 h2 d ≡ resource_of_document s h d
  unfolding resource_of_document
  resource_of_document_same d = λ i. option_and_then
      (λ url. if is_srcdoc (class_of url) then srcdoc_of_same (frame_of_same to s key body h d i) i else resource_number_same url i)
      (document_url_same to s key body h d i)

  added_by_same : (d : ℕ) → added_by s2 h2 d ≡ added_by s h d
  unfolding added_by
  added_by_same d = λ i. filter (λ f. option_map_or (λ adder. adder == d) (adder_of_same to s key body h f i) false) (range_with_len 0 (frames_made_same to s key body h i))

  sight_with_same : (d : ℕ) (origin : Origin) → sight_with s2 h2 d origin ≡ sight_with s h d origin
  sight_with_same d origin = λ i. record {
    document = d;
    resource = resource_of_document_same d i;
    origin = origin;
    frame = frame_of_same to s key body h d i;
    parent = parent_of_same to s key body h (frame_of_same to s key body h d i) i;
    top = top_of_same to s key body h (frame_of_same to s key body h d i) i;
    opener = opener_of_same to s key body h (frame_of_same to s key body h d i) i;
    added = added_by_same d i;
  }

  sight_of_same : (d : ℕ) → sight_of s2 h2 d ≡ sight_of s h d
  unfolding sight_of
  sight_of_same d = λ i. option_map (λ origin. sight_with_same d origin i) (origin_of_same to s key body h d i)

  action_in_same : (sight : Sight) (k : ℕ) → action_in s2 sight k ≡ action_in s sight k
  action_in_same sight k = at_place sight.resource
    where
      at_resource : (o : Option ResourceData) → option_and_then (λ (r : ResourceData). slice_get r.actions k) (option_map (with_body_at key body) o) ≡ option_and_then (λ (r : ResourceData). slice_get r.actions k) o
      at_resource None = refl
      at_resource (Some x) = at_same s key body (λ y. slice_get y.actions k) x refl

      at_place : (o : Option ℕ) → option_and_then (λ (r : ResourceData). slice_get r.actions k) (option_and_then (slice_get s2.resources) o) ≡ option_and_then (λ (r : ResourceData). slice_get r.actions k) (option_and_then (slice_get s.resources) o)
      at_place None = refl
      at_place (Some n) = ap (option_and_then (λ (r : ResourceData). slice_get r.actions k)) (slice_get-map (with_body_at key body) s.resources n) ∙ at_resource (slice_get s.resources n)

  act_in_same : (sight : Sight) (k : ℕ) → act_in s2 sight k ≡ act_in s sight k
  act_in_same sight k = λ i. option_map_or (act_of_action sight) (action_in_same sight k i) Done

  pub next_act_same : (d : ℕ) → next_act s2 h2 d ≡ next_act s h d
  unfolding next_act act_of
  next_act_same d = λ i. option_map_or (λ sight. act_in_same sight (actions_done_same to s key body h d i) i) (sight_of_same d i) Done

  -- the choice of a process
  serves_document_same : (group p d : ℕ) → serves_document s2 h2 group p d ≡ serves_document s h group p d
  serves_document_same group p d = λ i. is_current_in_same to s key body h p d i && is_in_group_same to s key body h group (frame_of_same to s key body h d i) i

  serves_order_same : (group p n : ℕ) → serves_order s2 h2 group p n ≡ serves_order s h group p n
  serves_order_same group p n = λ i. is_waiting_same to s key body h n i && had_order_same to s key body h p n i && is_in_group_same to s key body h group (frame_of_same to s key body h n i) i

  serves_group_same : (group p : ℕ) → serves_group s2 h2 group p ≡ serves_group s h group p
  serves_group_same group p = λ i. list_any (λ n. serves_document_same group p n i || serves_order_same group p n i) (documents_same to s key body h i)

  process_in_group_same : (group : ℕ) (site : Site) → process_in_group s2 h2 group site ≡ process_in_group s h group site
  unfolding process_in_group
  process_in_group_same group site = λ i. find (λ p. is_locked_to_same to s key body h site p i && serves_group_same group p i) (processes_same to s key body h i)

  process_of_site_same : (f : ℕ) (site : Site) → process_of_site s2 h2 f site ≡ process_of_site s h f site
  unfolding process_of_site
  process_of_site_same f site = λ i. if is_some (parent_of_same to s key body h f i) || nat_le s.soft_limit (live_count_same to s key body h i) then find (λ p. is_locked_to_same to s key body h site p i) (processes_same to s key body h i) else None

  pub warm_process_same : warm_process h2 ≡ warm_process h
  unfolding warm_process
  warm_process_same = λ i. find (λ p. is_warm_same to s key body h p i) (processes_same to s key body h i)

  pub may_start_same : may_start h2 ≡ may_start h
  unfolding may_start
  may_start_same = λ i. nat_lt (live_count_same to s key body h i) 64 && nat_lt (started_same to s key body h i) 1024

  pub choice_same : (f : ℕ) (site : Site) → choice s2 h2 f site ≡ choice s h f site
  unfolding choice
  choice_same f site = λ i.
      option_or (option_and_then (λ group. process_in_group_same group site i) (group_of_same to s key body h f i))
      (option_or (process_of_site_same f site i)
      (option_or (warm_process_same i) (if may_start_same i then Some (started_same to s key body h i) else None)))

  -- the judgement
  count_row_same : count_row s2 h2 ≡ count_row s h
  count_row_same = λ i. if nat_le 256 (navigations_made_same to s key body h i) then Deny N4 else Okay

  read_url_rows_same : (read : Result (List ℕ) UrlRefusal) → read_url_rows s2 h2 read ≡ read_url_rows s h read
  read_url_rows_same (Err e) = refl
  read_url_rows_same (Ok url) = λ i. if not (may_load (class_of url)) then Deny N3 else count_row_same i

  url_rows_same : (text : List ℕ) → url_rows s2 h2 text ≡ url_rows s h text
  url_rows_same text = read_url_rows_same (page_url_of text)

  src_rows_same : (src : Src) → src_rows s2 h2 src ≡ src_rows s h src
  src_rows_same (FromUrl text) = url_rows_same text
  src_rows_same (FromDoc index) = count_row_same

  lock_admits_same : (p : ℕ) (origin : Origin) → lock_admits s2 h2 p origin ≡ lock_admits s h p origin
  lock_admits_same p origin = λ i. option_map_or (λ site. admits s.rules site origin) (lock_of_same to s key body h p i) false

  in_group_same : (d f : ℕ) → in_group s2 h2 d f ≡ in_group s h d f
  in_group_same d f = λ i. share_group_same to s key body h (frame_of_same to s key body h d i) f i

  is_own_origin_same : (d : ℕ) (origin : Origin) → is_own_origin h2 d origin ≡ is_own_origin h d origin
  is_own_origin_same d origin = λ i. option_map_or (same_origin origin) (origin_of_same to s key body h d i) false

  judge_navigate_same : (p d frame : ℕ) (url : List ℕ) (initiator : Origin) → judge_navigate s2 h2 p d frame url initiator ≡ judge_navigate s h p d frame url initiator
  unfolding judge_navigate
  judge_navigate_same p d frame url initiator = λ i.
      if not (lock_admits_same p initiator i) then Kill K2
      else if not (in_group_same d frame i) then Kill K4
      else if not (is_present_same to s key body h frame i) then Drop G2
      else if not (may_navigate_same to s key body h d frame i) then Deny N1
      else url_rows_same url i

  judge_add_frame_same : (src : Src) → judge_add_frame s2 h2 src ≡ judge_add_frame s h src
  unfolding judge_add_frame
  judge_add_frame_same src = λ i. if nat_le 64 (frames_made_same to s key body h i) then Deny L1 else src_rows_same src i

  judge_remove_frame_same : (d frame : ℕ) → judge_remove_frame s2 h2 d frame ≡ judge_remove_frame s h d frame
  unfolding judge_remove_frame
  judge_remove_frame_same d frame = λ i.
      if not (is_child_same to s key body h frame (frame_of_same to s key body h d i) i) then Kill K5
      else if not (is_present_same to s key body h frame i) then Drop G2
      else Okay

  judge_open_page_same : (d : ℕ) (url : List ℕ) → judge_open_page s2 h2 d url ≡ judge_open_page s h d url
  unfolding judge_open_page
  judge_open_page_same d url = λ i.
      if is_sandboxed_same to s key body h (frame_of_same to s key body h d i) i then Deny N9
      else if nat_le 64 (frames_made_same to s key body h i) then Deny L1
      else url_rows_same url i

  judge_fetch_same : (d : ℕ) (url : List ℕ) (initiator : Origin) → judge_fetch h2 d url initiator ≡ judge_fetch h d url initiator
  unfolding judge_fetch
  judge_fetch_same d url initiator = λ i.
      if not (is_own_origin_same d initiator i) then Kill K3
      else if not (is_web_text url) then Deny F1
      else if nat_le 4096 (requests_made_same i) then Deny L2
      else Okay

  takes_origin_same : (d : ℕ) (target : Target) (receiver : Origin) → takes_origin h2 d target receiver ≡ takes_origin h d target receiver
  takes_origin_same d Any receiver = refl
  takes_origin_same d OwnOrigin receiver = is_own_origin_same d receiver
  takes_origin_same d (Of origin) receiver = refl

  judge_receiver_same : (d : ℕ) (target : Target) (o : Option ℕ) → judge_receiver h2 d target o ≡ judge_receiver h d target o
  judge_receiver_same d target None = refl
  judge_receiver_same d target (Some receiver) = λ i. if not (option_map_or (λ origin. takes_origin_same d target origin i) (origin_of_same to s key body h receiver i) false) then Drop M2 else Okay

  judge_post_same : (d frame : ℕ) (target : Target) (source : Origin) → judge_post s2 h2 d frame target source ≡ judge_post s h d frame target source
  unfolding judge_post
  judge_post_same d frame target source = λ i.
      if not (is_own_origin_same d source i) then Kill K6
      else if not (in_group_same d frame i) then Kill K4
      else if not (is_present_same to s key body h frame i) then Drop G2
      else judge_receiver_same d target (document_in_same to s key body h frame i) i

  pub judge_commit_same : (p nav : ℕ) (url : List ℕ) (origin : Origin) → judge_commit s2 h2 p nav url origin ≡ judge_commit s h p nav url origin
  unfolding judge_commit
  judge_commit_same p nav url origin = λ i.
      if not (had_order_same to s key body h p nav i) then Kill K8
      else if not (is_waiting_same to s key body h nav i) then Drop G3
      else option_map_or (compare_order url origin) (order_of_same to s key body h nav i) (Kill K8)

  module _ (rule : ServiceRule) where
    ask_origin_same : (service request : List ℕ) (origin : Origin) → ask_origin rule s2 h2 service request origin ≡ ask_origin rule s h service request origin
    ask_origin_same service request (Opaque o) = refl
    ask_origin_same service request (Tuple o) = λ i. reply_of_answer (rule service (accepted_requests_same service o i) (current_documents_same to s key body h i) request)

    judge_ask_same : (p : ℕ) (service : List ℕ) (origin : Origin) (request : List ℕ) → judge_ask rule s2 h2 p service origin request ≡ judge_ask rule s h p service origin request
    unfolding judge_ask
    judge_ask_same p service origin request = λ i. if not (lock_admits_same p origin i) then Kill K7 else ask_origin_same service request origin i

    judge_body_same : (p d : ℕ) (b : Body) → judge_body rule s2 h2 p d b ≡ judge_body rule s h p d b
    judge_body_same p d (Navigate frame url initiator) = judge_navigate_same p d frame url initiator
    judge_body_same p d (AddFrame src sandbox) = judge_add_frame_same src
    judge_body_same p d (RemoveFrame frame) = judge_remove_frame_same d frame
    judge_body_same p d (OpenPage url) = judge_open_page_same d url
    judge_body_same p d (Fetch url mode initiator) = judge_fetch_same d url initiator
    judge_body_same p d (Post frame target source text) = judge_post_same d frame target source
    judge_body_same p d (Ask service origin request) = judge_ask_same p service origin request
    judge_body_same p d (DidCommit nav url origin) = judge_commit_same p nav url origin

    pub judge_same : (p : ℕ) (m : Message) → judge rule s2 h2 p m ≡ judge rule s h p m
    unfolding judge
    judge_same p m = λ i.
        if not (is_did_commit m.body || hosted_same to s key body h p m.document i) then Kill K1
        else if not (is_did_commit m.body || is_current_same to s key body h m.document i) then Drop G1
        else judge_body_same p m.document m.body i

  -- the verdict of a request, where the body is a secret one
  module _ (r : ResourceData) (found : find_resource s key ≡ Some r) (secret : IsSecretBody s.policy r body) where
    pub response_same : {A : Type 0} (F : ResourceData → A) → F (with_own_body body r) ≡ F r → (chain : List (List ℕ)) → F (response s2 chain) ≡ F (response s chain)
    response_same F is chain = resource_same s key body r found secret F is (last_url chain)

    pub cors_fails_same : (q : ℕ) → cors_fails s2 h2 q ≡ cors_fails s h q
    unfolding cors_fails
    cors_fails_same q = (λ i. is_cors (request_mode_same q i) && is_read_chain (request_chain_same q i) && option_map_or
        (λ origin. is_failed (cors origin (request_chain_same q i) (response s2 (request_chain_same q i)).head.fields))
        (request_origin_same q i) false)
        ∙ response_same (λ x. is_cors (request_mode h q) && is_read_chain (request_chain h q) && option_map_or (λ origin. is_failed (cors origin (request_chain h q) x.head.fields)) (request_origin h q) false) refl (request_chain h q)

    -- a request's first URL, and those that it was redirected to
    abbrev first_url : ℕ → List ℕ
    first_url q = option_map_or (λ (m : Message). fetched_url m.body) (request_maker h q) []

    abbrev followed : ℕ → List (List ℕ)
    followed q = filter_map (hop_of_request q) h

    pub request_verdict_same : (q : ℕ) → request_verdict s2 h2 q ≡ request_verdict s h q
    unfolding request_chain request_verdict response_verdict
    request_verdict_same q = (λ i. option_and_then
        (λ origin. response_verdict s2 origin (request_chain_same q i) (request_mode_same q i) (response s2 (request_chain_same q i)))
        (request_origin_same q i))
        ∙ response_same (λ x. option_and_then (λ origin. response_verdict s origin (request_chain h q) (request_mode h q) x) (request_origin h q))
        (λ i. option_and_then (λ origin. verdict_same s key body r found secret origin (first_url q) (followed q) (request_mode h q) i) (request_origin h q)) (request_chain h q)

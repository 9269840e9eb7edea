-- Which rules the judgement and the verdict can come to: under the first policy never B8.
use Rattle.std.proofs.Common.{refl}
use Rattle.std.specs.Prelude.{◌≡◌, ◌&&◌, ◌||◌, if◌then◌else◌, Bool, Err, List, None, Ok, Option, Result, Some, bytes_eq, false, is_none, nat_le, not, true, ℕ}
use Rattle.std.specs.Option.{option_map_or, option_or}
use Rattle.page_origin.specs.Origins.{equal_origins}
use Rattle.page_origin.specs.PageUrls.{class_of, page_url_of}
use Rattle.page_origin.specs.declared.origin.Origin.{Origin}
use Rattle.page_origin.specs.declared.origin.Origin.TheVariants.{Opaque, Tuple}
use Rattle.page_origin.specs.declared.page.UrlRefusal.{UrlRefusal}
use Rattle.mime_kind.specs.Kinds.{kind_of}
use Rattle.mime_kind.specs.Nosniff.{nosniff}
use Rattle.mime_kind.specs.declared.head.Head.{Head as ResponseHead}
use Rattle.mime_kind.specs.declared.kind.Kind.{Kind}
use Rattle.corb_sniff.specs.Answers.{answer_of}
use Rattle.corb_sniff.specs.declared.kind.Answer.{Answer as Sniffing}
use Rattle.corb_sniff.specs.declared.kind.Answer.TheVariants.{Clear, Confirmed, More}
use Rattle.corb_sniff.specs.declared.kind.Sniffed.TheVariants as found
use Rattle.site_url.specs.Sites.{SiteRuleData}
use Rattle.cors_check.specs.Cors.{cors}
use Rattle.cors_check.specs.declared.answer.Cors.{Cors}
use Rattle.cors_check.specs.declared.answer.Cors.TheVariants.{Failed, Passed, SameOrigin}
use Rattle.history_entry.specs.CarriedRules.{end_rule, reply_rule}
use Rattle.history_entry.specs.declared.body.Body.{Body}
use Rattle.history_entry.specs.declared.body.Body.TheVariants.{AddFrame, Ask, DidCommit, Fetch, Navigate, OpenPage, Post, RemoveFrame}
use Rattle.history_entry.specs.declared.body.Message.{Message}
use Rattle.history_entry.specs.declared.body.Mode.{Mode}
use Rattle.history_entry.specs.declared.body.Mode.TheVariants as modes
use Rattle.history_entry.specs.declared.body.Src.{Src}
use Rattle.history_entry.specs.declared.body.Src.TheVariants.{Doc as FromDoc, Url as FromUrl}
use Rattle.history_entry.specs.declared.body.Target.{Target}
use Rattle.history_entry.specs.declared.entry.EndHow.{EndHow}
use Rattle.history_entry.specs.declared.entry.EndHow.TheVariants.{Blocked as WasBlocked, Failed as WasCut, Whole}
use Rattle.history_entry.specs.declared.entry.Entry.{Entry}
use Rattle.history_entry.specs.declared.policy.Policy.TheVariants.{One}
use Rattle.history_entry.specs.declared.reply.Reply.{Reply}
use Rattle.history_entry.specs.declared.reply.Reply.TheVariants.{Deny, Drop, Kill, Ok as Okay}
use Rattle.history_entry.specs.declared.rule.Rule.{Rule}
use Rattle.history_entry.specs.declared.rule.Rule.TheVariants.{A3, A4, A5, B1, B2, B3, B8, F1, G1, G2, G3, K1, K10, K2, K3, K4, K5, K6, K7, K8, K9, L1, L2, M2, N1, N3, N4, N5, N7, N9}
use Rattle.history_rules.specs.Orders.{OrderData, had_order, order_of}
use Rattle.script_model.specs.ResourceData.{fails_at_once, ResourceData}
use Rattle.script_model.specs.ScriptData.{ScriptData}
use Rattle.script_model.specs.Verdicts.{body_verdict, bytes_verdict, cors_verdict, head_verdict, is_left_out, is_protected_or_plain, is_same_site_chain, sniff_kind, sniffed_verdict, verdict}
use Rattle.script_model.specs.declared.limits.TheConstants.{MAX_FRAMES, MAX_NAVIGATIONS, MAX_REQUESTS}
use Rattle.service_rule.specs.declared.service.ServiceAnswer.{ServiceAnswer}
use Rattle.service_rule.specs.declared.service.ServiceAnswer.TheVariants.{Refused, Said as Answered}
use Rattle.script_model.specs.declared.verdict.Verdict.{Verdict}
use Rattle.script_model.specs.declared.verdict.Verdict.TheVariants.{Allow, Block}
use Rattle.history_rules.specs.Documents.{current_documents, document_in, hosted, is_current, is_present, may_navigate, origin_of}
use Rattle.history_rules.specs.Frames.{frame_of, frames_made, is_child, is_sandboxed, navigations_made}
use Rattle.history_rules.specs.Judgement.{ask_origin, compare_order, count_row, in_group, is_did_commit, is_own_origin, is_web_text, judge, judge_add_frame, judge_ask, judge_body, judge_commit, judge_fetch, judge_navigate, judge_open_page, judge_post, judge_receiver, judge_remove_frame, lock_admits, may_load, read_url_rows, reply_of_answer, src_rows, takes_origin, url_rows}
use Rattle.history_rules.specs.Navigations.{is_waiting}
use Rattle.script_model.specs.Pieces.{has_ended}
use Rattle.history_rules.specs.Redirects.{hop_url, is_redirect, is_spent, response}
use Rattle.history_rules.specs.Requests.{cors_fails, request_chain, request_verdict, requests_made}
use Rattle.history_rules.specs.Services.{accepted_requests}
use Rattle.service_rule.specs.Services.{ServiceRule, is_service_rule}
use Rattle.history_steps.specs.Deliveries.{body_end, end_how, redirect_end, wire_end}
use Rattle.history_laws.specs.PolicyLaw.{RefusesByServiceRules, is_rule_of}

-- a rule of the first policy, or none
abbrev pub fine : Option Rule → Bool
fine o = option_map_or (is_rule_of One) o true

pub fine_if : (b : Bool) (x y : Option Rule) → fine x ≡ true → fine y ≡ true → fine (if b then x else y) ≡ true
fine_if true x y e f = e
fine_if false x y e f = f

-- ---- replies

abbrev pub fine_reply : Reply → Bool
fine_reply r = fine (reply_rule r)

reply_if : (b : Bool) (x y : Reply) → fine_reply x ≡ true → fine_reply y ≡ true → fine_reply (if b then x else y) ≡ true
reply_if true x y e f = e
reply_if false x y e f = f

service_fine : (why : Rule) → is_service_rule why ≡ true → is_rule_of One why ≡ true
service_fine B8 e = absurd (cc)
service_fine _ e = refl

answer_fine : (a : ServiceAnswer) → ((why : Rule) → a ≡ Refused why → is_service_rule why ≡ true) → fine_reply (reply_of_answer a) ≡ true
answer_fine (Answered text) own = refl
answer_fine (Refused why) own = service_fine why (own why refl)

module _ (rule : ServiceRule) (s : ScriptData) (h : List Entry) (own : RefusesByServiceRules rule) where
  count_fine : fine_reply (count_row s h) ≡ true
  count_fine = reply_if (nat_le MAX_NAVIGATIONS (navigations_made s h)) (Deny N4) Okay refl refl

  read_url_fine : (r : Result (List ℕ) UrlRefusal) → fine_reply (read_url_rows s h r) ≡ true
  read_url_fine (Err e) = refl
  read_url_fine (Ok url) = reply_if (not (may_load (class_of url))) (Deny N3) (count_row s h) refl count_fine

  src_fine : (src : Src) → fine_reply (src_rows s h src) ≡ true
  src_fine (FromUrl text) = read_url_fine (page_url_of text)
  src_fine (FromDoc index) = count_fine

  navigate_fine : (p d frame : ℕ) (url : List ℕ) (initiator : Origin) → fine_reply (judge_navigate s h p d frame url initiator) ≡ true
  unfolding judge_navigate
  navigate_fine p d frame url initiator =
      let e : fine_reply (if not (may_navigate s h d frame) then Deny N1 else url_rows s h url) ≡ true = reply_if (not (may_navigate s h d frame)) (Deny N1) (url_rows s h url) refl (read_url_fine (page_url_of url)) in
      let f = reply_if (not (is_present s h frame)) (Drop G2) _ refl e in
      let g = reply_if (not (in_group s h d frame)) (Kill K4) _ refl f in
      reply_if (not (lock_admits s h p initiator)) (Kill K2) _ refl g

  open_page_fine : (d : ℕ) (url : List ℕ) → fine_reply (judge_open_page s h d url) ≡ true
  unfolding judge_open_page
  open_page_fine d url =
      let e = reply_if (nat_le MAX_FRAMES (frames_made s h)) (Deny L1) (url_rows s h url) refl (read_url_fine (page_url_of url)) in
      reply_if (is_sandboxed s h (frame_of s h d)) (Deny N9) _ refl e

  fetch_fine : (d : ℕ) (url : List ℕ) (initiator : Origin) → fine_reply (judge_fetch h d url initiator) ≡ true
  unfolding judge_fetch
  fetch_fine d url initiator =
      let e = reply_if (nat_le MAX_REQUESTS (requests_made h)) (Deny L2) Okay refl refl in
      let f = reply_if (not (is_web_text url)) (Deny F1) _ refl e in
      reply_if (not (is_own_origin h d initiator)) (Kill K3) _ refl f

  receiver_fine : (d : ℕ) (target : Target) (o : Option ℕ) → fine_reply (judge_receiver h d target o) ≡ true
  receiver_fine d target None = refl
  receiver_fine d target (Some receiver) = reply_if (not (option_map_or (takes_origin h d target) (origin_of h receiver) false)) (Drop M2) Okay refl refl

  post_fine : (d frame : ℕ) (target : Target) (source : Origin) → fine_reply (judge_post s h d frame target source) ≡ true
  unfolding judge_post
  post_fine d frame target source =
      let e = reply_if (not (is_present s h frame)) (Drop G2) (judge_receiver h d target (document_in s h frame)) refl (receiver_fine d target (document_in s h frame)) in
      let f = reply_if (not (in_group s h d frame)) (Kill K4) _ refl e in
      reply_if (not (is_own_origin h d source)) (Kill K6) _ refl f

  ask_fine : (service request : List ℕ) (origin : Origin) → fine_reply (ask_origin rule s h service request origin) ≡ true
  ask_fine service request (Opaque o) = refl
  ask_fine service request (Tuple o) = answer_fine (rule service (accepted_requests h service o) (current_documents s h) request)
      (λ why is. own service (accepted_requests h service o) (current_documents s h) request why is)

  compare_fine : (url : List ℕ) (origin : Origin) (o : Option OrderData) → fine_reply (option_map_or (compare_order url origin) o (Kill K8)) ≡ true
  compare_fine url origin None = refl
  compare_fine url origin (Some order) =
      reply_if (not (bytes_eq url order.url)) (Kill K9) _ refl (reply_if (not (equal_origins origin order.origin)) (Kill K10) Okay refl refl)

  pub commit_fine : (p nav : ℕ) (url : List ℕ) (origin : Origin) → fine_reply (judge_commit s h p nav url origin) ≡ true
  unfolding judge_commit
  commit_fine p nav url origin =
      let e = reply_if (not (is_waiting s h nav)) (Drop G3) (option_map_or (compare_order url origin) (order_of h nav) (Kill K8)) refl (compare_fine url origin (order_of h nav)) in
      reply_if (not (had_order h p nav)) (Kill K8) _ refl e

  body_fine : (p d : ℕ) (b : Body) → fine_reply (judge_body rule s h p d b) ≡ true
  unfolding judge_add_frame judge_remove_frame judge_ask
  body_fine p d (Navigate frame url initiator) = navigate_fine p d frame url initiator
  body_fine p d (AddFrame src sandbox) = reply_if (nat_le MAX_FRAMES (frames_made s h)) (Deny L1) (src_rows s h src) refl (src_fine src)
  body_fine p d (RemoveFrame frame) =
      reply_if (not (is_child s h frame (frame_of s h d))) (Kill K5) _ refl (reply_if (not (is_present s h frame)) (Drop G2) Okay refl refl)
  body_fine p d (OpenPage url) = open_page_fine d url
  body_fine p d (Fetch url mode initiator) = fetch_fine d url initiator
  body_fine p d (Post frame target source text) = post_fine d frame target source
  body_fine p d (Ask service origin request) = reply_if (not (lock_admits s h p origin)) (Kill K7) (ask_origin rule s h service request origin) refl (ask_fine service request origin)
  body_fine p d (DidCommit nav url origin) = commit_fine p nav url origin

  -- no reply carries B8
  pub judge_fine : (p : ℕ) (m : Message) → fine_reply (judge rule s h p m) ≡ true
  unfolding judge
  judge_fine p m =
      let body : fine_reply (judge_body rule s h p m.document m.body) ≡ true = body_fine p m.document m.body in
      let e = reply_if (not (is_did_commit m.body || is_current s h m.document)) (Drop G1) (judge_body rule s h p m.document m.body) refl body in
      reply_if (not (is_did_commit m.body || hosted h p m.document)) (Kill K1) _ refl e

-- ---- verdicts

abbrev rule_in : Verdict → Rule
rule_in (Allow rule) = rule
rule_in (Block rule) = rule

abbrev pub fine_verdict : Option Verdict → Bool
fine_verdict o = option_map_or (λ v. is_rule_of One (rule_in v)) o true

verdict_if : (b : Bool) (x y : Option Verdict) → fine_verdict x ≡ true → fine_verdict y ≡ true → fine_verdict (if b then x else y) ≡ true
verdict_if true x y e f = e
verdict_if false x y e f = f

verdict_or : (x y : Option Verdict) → fine_verdict x ≡ true → fine_verdict y ≡ true → fine_verdict (option_or x y) ≡ true
verdict_or None y e f = f
verdict_or (Some v) y e f = e

cors_fine : (answer : Cors) → fine_verdict (Some (cors_verdict answer)) ≡ true
cors_fine SameOrigin = refl
cors_fine Passed = refl
cors_fine Failed = refl

clear_fine : (b : Bool) → fine_verdict (Some (if b then Allow A5 else Allow A4)) ≡ true
clear_fine true = refl
clear_fine false = refl

sniffed_fine : (kind : Kind) (answer : Sniffing) → fine_verdict (sniffed_verdict kind answer) ≡ true
sniffed_fine kind More = refl
sniffed_fine kind Clear = clear_fine (is_protected_or_plain kind)
sniffed_fine kind (Confirmed found.Html) = refl
sniffed_fine kind (Confirmed found.Xml) = refl
sniffed_fine kind (Confirmed found.Json) = refl
sniffed_fine kind (Confirmed found.Prefix) = refl

body_verdict_fine : (head : ResponseHead) (bytes : List ℕ) (ended : Bool) → fine_verdict (body_verdict head bytes ended) ≡ true
unfolding body_verdict bytes_verdict head_verdict
body_verdict_fine head bytes ended = verdict_or _ (bytes_verdict (kind_of head.fields) bytes ended)
    (verdict_if _ (Some (Block B2)) _ refl (verdict_if (nosniff head.fields && is_protected_or_plain (kind_of head.fields)) (Some (Block B3)) None refl refl))
    (sniffed_fine (kind_of head.fields) (answer_of (sniff_kind (kind_of head.fields)) bytes ended))

-- no verdict of the first policy is B8
pub first_verdict_fine : (rules : SiteRuleData) (origin : Origin) (chain : List (List ℕ)) (mode : Mode) (head : ResponseHead) (bytes : List ℕ) (ended : Bool)
    → fine_verdict (verdict One rules origin chain mode head bytes ended) ≡ true
unfolding verdict is_left_out
first_verdict_fine rules origin chain modes.Cors head bytes ended = cors_fine (cors origin chain head.fields)
first_verdict_fine rules origin chain modes.NoCors head bytes ended =
    verdict_if (is_same_site_chain rules origin chain) (Some (Allow A3)) (body_verdict head bytes ended) refl (body_verdict_fine head bytes ended)

-- ---- ends

abbrev pub fine_how : Option EndHow → Bool
fine_how o = option_map_or (λ how. fine (end_rule how)) o true

how_if : (b : Bool) (x y : Option EndHow) → fine_how x ≡ true → fine_how y ≡ true → fine_how (if b then x else y) ≡ true
how_if true x y e f = e
how_if false x y e f = f

wire_fine : (r : ResourceData) → fine_how (Some (wire_end r)) ≡ true
wire_fine r = by_cases (has_ended r)
  where
    by_cases : (b : Bool) → fine_how (Some (if b then Whole else WasCut N7)) ≡ true
    by_cases true = refl
    by_cases false = refl

module _ (s : ScriptData) (h : List Entry) (r : ℕ) where
  body_end_fine : (v : Option Verdict) → fine_verdict v ≡ true → fine_how (body_end s h r v) ≡ true
  unfolding body_end
  body_end_fine None e = refl
  body_end_fine (Some (Block rule)) e = e
  body_end_fine (Some (Allow rule)) e = how_if _ (Some (wire_end (response s (request_chain h r)))) None (wire_fine (response s (request_chain h r))) refl

  redirect_end_fine : fine_how (redirect_end s h r) ≡ true
  unfolding redirect_end
  redirect_end_fine =
      let e = how_if (is_none (hop_url s (request_chain h r))) (Some (WasCut F1)) None refl refl in
      let f = how_if (is_spent (request_chain h r)) (Some (WasCut N5)) _ refl e in
      how_if (cors_fails s h r) (Some (WasBlocked B1)) _ refl f

  -- no end carries B8, where the verdict does not
  pub end_how_fine : fine_verdict (request_verdict s h r) ≡ true → fine_how (end_how s h r) ≡ true
  unfolding end_how
  end_how_fine e =
      let body = body_end_fine (request_verdict s h r) e in
      let stays = how_if (is_redirect (response s (request_chain h r))) (redirect_end s h r) (body_end s h r (request_verdict s h r)) redirect_end_fine body in
      how_if (fails_at_once (response s (request_chain h r))) (Some (WasCut N7)) _ refl stays

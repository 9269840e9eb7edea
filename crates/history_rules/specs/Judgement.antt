-- The reply to a message of process p: the first row that holds decides. Own rules, after Chromium's ChildProcessSecurityPolicyImpl
-- and the reasons for a kill of its bad_message.h: K2 INVALID_INITIATOR_ORIGIN, K5 RFH_DETACH_MAIN_FRAME, K6
-- RFPH_POST_MESSAGE_INVALID_SOURCE_ORIGIN, K8 RFH_NO_MATCHING_NAVIGATION_REQUEST_ON_COMMIT, K9 RFH_CAN_COMMIT_URL_BLOCKED, K10
-- RFH_INVALID_ORIGIN_ON_COMMIT; K3 checks a request's initiator, and K7 is what CanAccessDataForOrigin asks. A message that its sender
-- could not know to be late is dropped (G1 to G3), and what is only not allowed is denied.
use Rattle.std.specs.Prelude.{◌||◌, if◌then◌else◌, Bool, Err, List, None, Ok, Option, Result, Some, bytes_eq, false, nat_le, not, true, ℕ}
use Rattle.std.specs.Option.{option_map_or}
use Rattle.std.specs.Result.{result_ok}
use Rattle.page_origin.specs.Origins.{equal_origins, same_origin}
use Rattle.page_origin.specs.PageUrls.{class_of, page_url_of}
use Rattle.page_origin.specs.declared.class.UrlClass.{UrlClass}
use Rattle.page_origin.specs.declared.class.UrlClass.TheVariants.{AboutBlank, AboutSrcdoc, DataUrl, Foreign, Web}
use Rattle.page_origin.specs.declared.origin.Origin.{Origin}
use Rattle.page_origin.specs.declared.origin.Origin.TheVariants.{Opaque, Tuple}
use Rattle.page_origin.specs.declared.page.UrlRefusal.{UrlRefusal}
use Rattle.site_url.specs.Sites.{admits}
use Rattle.history_entry.specs.declared.body.Body.{Body}
use Rattle.history_entry.specs.declared.body.Body.TheVariants.{AddFrame, Ask, DidCommit, Fetch, Navigate, OpenPage, Post, RemoveFrame}
use Rattle.history_entry.specs.declared.body.Message.{Message}
use Rattle.history_entry.specs.declared.body.Src.{Src}
use Rattle.history_entry.specs.declared.body.Src.TheVariants.{Doc as FromDoc, Url as FromUrl}
use Rattle.history_entry.specs.declared.body.Target.{Target}
use Rattle.history_entry.specs.declared.body.Target.TheVariants.{Any, Of, Own as OwnOrigin}
use Rattle.history_entry.specs.declared.entry.Entry.{Entry}
use Rattle.history_entry.specs.declared.reply.Reply.{Reply}
use Rattle.history_entry.specs.declared.reply.Reply.TheVariants.{Answer, Deny, Drop, Kill, Ok as Okay}
use Rattle.history_entry.specs.declared.rule.Rule.TheVariants.{F1, G1, G2, G3, K1, K10, K2, K3, K4, K5, K6, K7, K8, K9, L1, L2, M1, M2, N1, N2, N3, N4, N9, S1}
use Rattle.history_rules.specs.Orders.{OrderData, had_order, order_of}
use Rattle.script_model.specs.ScriptData.{ScriptData}
use Rattle.script_model.specs.declared.limits.TheConstants.{MAX_FRAMES, MAX_NAVIGATIONS, MAX_REQUESTS}
use Rattle.service_rule.specs.declared.service.ServiceAnswer.{ServiceAnswer}
use Rattle.service_rule.specs.declared.service.ServiceAnswer.TheVariants.{Said as Answered, Refused}
use Rattle.history_rules.specs.Documents.{current_documents, document_in, hosted, is_current, is_present, may_navigate, origin_of}
use Rattle.history_rules.specs.Frames.{frame_of, frames_made, is_child, is_sandboxed, navigations_made, share_group}
use Rattle.history_rules.specs.Navigations.{is_waiting}
use Rattle.history_rules.specs.Processes.{lock_of}
use Rattle.history_rules.specs.Redirects.{is_web}
use Rattle.history_rules.specs.Requests.{requests_made}
use Rattle.history_rules.specs.Services.{accepted_requests}
use Rattle.service_rule.specs.Services.{ServiceRule}

-- the classes to which a frame or a page may be navigated
abbrev pub may_load : UrlClass → Bool
may_load Web = true
may_load AboutBlank = true
may_load AboutSrcdoc = false
may_load DataUrl = true
may_load Foreign = false

-- the row on the count: N4 where 256 navigations were made
abbrev pub count_row : ScriptData → List Entry → Reply
count_row s h = if nat_le MAX_NAVIGATIONS (navigations_made s h) then Deny N4 else Okay

-- the rows on a URL that was read: N2 no URL, N3 a class that is not loaded, then the count
abbrev pub read_url_rows : ScriptData → List Entry → Result (List ℕ) UrlRefusal → Reply
read_url_rows s h (Err e) = Deny N2
read_url_rows s h (Ok url) = if not (may_load (class_of url)) then Deny N3 else count_row s h

-- the rows on the text of a navigation's URL
abbrev pub url_rows : ScriptData → List Entry → List ℕ → Reply
url_rows s h text = read_url_rows s h (page_url_of text)

-- the rows on a frame's source; of a resource the count alone is asked
abbrev pub src_rows : ScriptData → List Entry → Src → Reply
src_rows s h (FromUrl text) = url_rows s h text
src_rows s h (FromDoc index) = count_row s h

-- the process is locked to the site of this origin
abbrev pub lock_admits : ScriptData → List Entry → ℕ → Origin → Bool
lock_admits s h p origin = option_map_or (λ site. admits s.rules site origin) (lock_of h p) false

-- the frame was ever in the document's group
abbrev pub in_group : ScriptData → List Entry → ℕ → ℕ → Bool
in_group s h d f = share_group s h (frame_of s h d) f

-- the document has the same origin as this one
abbrev pub is_own_origin : List Entry → ℕ → Origin → Bool
is_own_origin h d origin = option_map_or (same_origin origin) (origin_of h d) false

-- the rows of Navigate: K2 an initiator of another site than the lock, K4 a frame of another group, G2 a removed frame, N1 a frame
-- that the document may not navigate, then those on the URL
unfoldable pub judge_navigate : ScriptData → List Entry → ℕ → ℕ → ℕ → List ℕ → Origin → Reply
judge_navigate s h p d frame url initiator =
    if not (lock_admits s h p initiator) then Kill K2
    else if not (in_group s h d frame) then Kill K4
    else if not (is_present s h frame) then Drop G2
    else if not (may_navigate s h d frame) then Deny N1
    else url_rows s h url

-- the rows of AddFrame: L1 where 64 frames were made, then those on the source
unfoldable pub judge_add_frame : ScriptData → List Entry → Src → Reply
judge_add_frame s h src = if nat_le MAX_FRAMES (frames_made s h) then Deny L1 else src_rows s h src

-- the rows of RemoveFrame: K5 no child of the document's frame, G2 a removed frame
unfoldable pub judge_remove_frame : ScriptData → List Entry → ℕ → ℕ → Reply
judge_remove_frame s h d frame =
    if not (is_child s h frame (frame_of s h d)) then Kill K5
    else if not (is_present s h frame) then Drop G2
    else Okay

-- the rows of OpenPage: N9 a sandboxed frame, L1 where 64 frames were made, then those on the URL
unfoldable pub judge_open_page : ScriptData → List Entry → ℕ → List ℕ → Reply
judge_open_page s h d url =
    if is_sandboxed s h (frame_of s h d) then Deny N9
    else if nat_le MAX_FRAMES (frames_made s h) then Deny L1
    else url_rows s h url

-- the text names a URL of class Web
abbrev pub is_web_text : List ℕ → Bool
is_web_text text = option_map_or is_web (result_ok (page_url_of text)) false

-- the rows of Fetch: K3 an initiator of another origin than the document's, F1 no URL of class Web, L2 where 4,096 requests began
unfoldable pub judge_fetch : List Entry → ℕ → List ℕ → Origin → Reply
judge_fetch h d url initiator =
    if not (is_own_origin h d initiator) then Kill K3
    else if not (is_web_text url) then Deny F1
    else if nat_le MAX_REQUESTS (requests_made h) then Deny L2
    else Okay

-- the target takes a receiver with this origin; `/` asks for the sender's own
abbrev pub takes_origin : List Entry → ℕ → Target → Origin → Bool
takes_origin h d Any receiver = true
takes_origin h d OwnOrigin receiver = is_own_origin h d receiver
takes_origin h d (Of origin) receiver = same_origin origin receiver

-- the rows on the document that is to get a post: M1 there is none, M2 it is not of the target's origin
abbrev pub judge_receiver : List Entry → ℕ → Target → Option ℕ → Reply
judge_receiver h d target None = Drop M1
judge_receiver h d target (Some receiver) =
    if not (option_map_or (takes_origin h d target) (origin_of h receiver) false) then Drop M2 else Okay

-- the rows of Post: K6 a source of another origin than the document's, K4 a frame of another group, G2 a removed frame, then those
-- on the receiver
unfoldable pub judge_post : ScriptData → List Entry → ℕ → ℕ → Target → Origin → Reply
judge_post s h d frame target source =
    if not (is_own_origin h d source) then Kill K6
    else if not (in_group s h d frame) then Kill K4
    else if not (is_present s h frame) then Drop G2
    else judge_receiver h d target (document_in s h frame)

-- the reply by a service's answer
abbrev pub reply_of_answer : ServiceAnswer → Reply
reply_of_answer (Answered text) = Answer text
reply_of_answer (Refused rule) = Deny rule

-- a service answers a tuple origin alone: S1 an opaque one, then the service's own rule
abbrev pub ask_origin : ServiceRule → ScriptData → List Entry → List ℕ → List ℕ → Origin → Reply
ask_origin rule s h service request (Opaque o) = Deny S1
ask_origin rule s h service request (Tuple o) =
    reply_of_answer (rule service (accepted_requests h service o) (current_documents s h) request)

-- the rows of Ask: K7 an origin of another site than the lock, then those of the service
unfoldable pub judge_ask : ServiceRule → ScriptData → List Entry → ℕ → List ℕ → Origin → List ℕ → Reply
judge_ask rule s h p service origin request =
    if not (lock_admits s h p origin) then Kill K7 else ask_origin rule s h service request origin

-- a commit against its order, both as whole values: K9 another URL, K10 another origin
abbrev pub compare_order : List ℕ → Origin → OrderData → Reply
compare_order url origin order =
    if not (bytes_eq url order.url) then Kill K9
    else if not (equal_origins origin order.origin) then Kill K10
    else Okay

-- the rows of DidCommit: K8 the process never had an order for it, G3 the order is not waiting, then its URL and origin. An order
-- that is waiting is there, so the last reply never comes
unfoldable pub judge_commit : ScriptData → List Entry → ℕ → ℕ → List ℕ → Origin → Reply
judge_commit s h p nav url origin =
    if not (had_order h p nav) then Kill K8
    else if not (is_waiting s h nav) then Drop G3
    else option_map_or (compare_order url origin) (order_of h nav) (Kill K8)

-- the rows of each message after those on its document
abbrev pub judge_body : ServiceRule → ScriptData → List Entry → ℕ → ℕ → Body → Reply
judge_body rule s h p d (Navigate frame url initiator) = judge_navigate s h p d frame url initiator
judge_body rule s h p d (AddFrame src sandbox) = judge_add_frame s h src
judge_body rule s h p d (RemoveFrame frame) = judge_remove_frame s h d frame
judge_body rule s h p d (OpenPage url) = judge_open_page s h d url
judge_body rule s h p d (Fetch url mode initiator) = judge_fetch h d url initiator
judge_body rule s h p d (Post frame target source text) = judge_post s h d frame target source
judge_body rule s h p d (Ask service origin request) = judge_ask rule s h p service origin request
judge_body rule s h p d (DidCommit nav url origin) = judge_commit s h p nav url origin

-- the message tells a commit
abbrev pub is_did_commit : Body → Bool
is_did_commit (DidCommit nav url origin) = true
is_did_commit _ = false

-- the reply to a message of process p: K1 a document that was never one of p, G1 one that is not current, neither asked of DidCommit;
-- then the rows of the message
unfoldable pub judge : ServiceRule → ScriptData → List Entry → ℕ → Message → Reply
judge rule s h p m =
    if not (is_did_commit m.body || hosted h p m.document) then Kill K1
    else if not (is_did_commit m.body || is_current s h m.document) then Drop G1
    else judge_body rule s h p m.document m.body

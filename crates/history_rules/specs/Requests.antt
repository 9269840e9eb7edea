-- Requests of documents: their URLs, their responses, and how far these were delivered. Own rules, after the requests of the Fetch
-- Standard in the modes cors and no-cors. They are numbered from 0 in the order of the accepted Fetch messages.
use Rattle.std.specs.Prelude.{◌==◌, ◌&&◌, ◌∷◌, [], if◌then◌else◌, Bool, List, None, Option, Some, bytes_eq, count_by, false, filter, filter_map, is_some, not, option_and_then, option_map, slice_get, ℕ}
use Rattle.std.specs.List.{list_all, list_any, range_with_len}
use Rattle.std.specs.Option.{option_map_or}
use Rattle.std.specs.Result.{result_ok}
use Rattle.page_origin.specs.PageUrls.{page_url_of}
use Rattle.page_origin.specs.declared.origin.Origin.{Origin}
use Rattle.cors_check.specs.Cors.{cors}
use Rattle.history_entry.specs.declared.body.Body.{Body}
use Rattle.history_entry.specs.declared.body.Body.TheVariants.{Fetch}
use Rattle.history_entry.specs.declared.body.Message.{Message}
use Rattle.history_entry.specs.declared.body.Mode.{Mode}
use Rattle.history_entry.specs.declared.body.Mode.TheVariants.{NoCors}
use Rattle.history_entry.specs.declared.entry.Entry.{Entry}
use Rattle.history_entry.specs.declared.entry.Entry.TheVariants.{End, Head, Hop, Piece}
use Rattle.history_entry.specs.declared.entry.HopOf.TheVariants.{Req}
use Rattle.history_entry.specs.declared.rule.Rule.{Rule}
use Rattle.script_model.specs.ResourceData.{ResourceData}
use Rattle.script_model.specs.ScriptData.{ScriptData}
use Rattle.script_model.specs.Verdicts.{is_cors, is_failed, verdict}
use Rattle.script_model.specs.declared.verdict.Verdict.{Verdict}
use Rattle.history_rules.specs.Documents.{is_current, origin_of, process_of}
use Rattle.history_rules.specs.Entries.{accepted, last_match, makes_request}
use Rattle.history_rules.specs.Navigations.{url_of_text}
use Rattle.script_model.specs.Pieces.{has_ended, seen_body}
use Rattle.history_rules.specs.Redirects.{is_web, response}

-- how many requests began
abbrev pub requests_made : List Entry → ℕ
requests_made h = count_by makes_request h

-- their numbers
abbrev pub requests : List Entry → List ℕ
requests h = range_with_len 0 (requests_made h)

-- the message that began a request
unfoldable pub request_maker : List Entry → ℕ → Option Message
request_maker h r = option_and_then accepted (slice_get (filter makes_request h) r)

-- the URL that a Fetch names
abbrev pub fetched_url : Body → List ℕ
fetched_url (Fetch url mode initiator) = url_of_text url
fetched_url _ = []

-- the mode of a Fetch
abbrev pub fetched_mode : Body → Mode
fetched_mode (Fetch url mode initiator) = mode
fetched_mode _ = NoCors

-- the document of a request
abbrev pub request_document : List Entry → ℕ → Option ℕ
request_document h r = option_map (λ m. m.document) (request_maker h r)

-- the process of its document
abbrev pub request_process : List Entry → ℕ → Option ℕ
request_process h r = option_and_then (process_of h) (request_document h r)

-- the origin of its document
unfoldable pub request_origin : List Entry → ℕ → Option Origin
request_origin h r = option_and_then (origin_of h) (request_document h r)

-- the mode of its Fetch
abbrev pub request_mode : List Entry → ℕ → Mode
request_mode h r = option_map_or (λ m. fetched_mode m.body) (request_maker h r) NoCors

-- a redirect of request r that was followed
abbrev pub hop_of_request : ℕ → Entry → Option (List ℕ)
hop_of_request r (Hop (Req q) url) = if q == r then Some url else None
hop_of_request r _ = None

-- its URLs: the first, and one for each redirect that was followed
unfoldable pub request_chain : List Entry → ℕ → List (List ℕ)
request_chain h r =
    option_map_or (λ m. fetched_url m.body) (request_maker h r) [] ∷ filter_map (hop_of_request r) h

-- a piece of request r
abbrev pub is_piece_of : ℕ → Entry → Bool
is_piece_of r (Piece q i bytes) = q == r
is_piece_of r _ = false

-- the end of request r
abbrev pub is_end_of : ℕ → Entry → Bool
is_end_of r (End q how) = q == r
is_end_of r _ = false

-- the rule of a Head of request r
abbrev pub head_in : ℕ → Entry → Option Rule
head_in r (Head q rule) = if q == r then Some rule else None
head_in r _ = None

-- the rule of its Head
unfoldable pub head_of : List Entry → ℕ → Option Rule
head_of h r = last_match (head_in r) h

-- it has a Head
unfoldable pub has_head : List Entry → ℕ → Bool
has_head h r = is_some (head_of h r)

-- it has an End
unfoldable pub has_end : List Entry → ℕ → Bool
has_end h r = list_any (is_end_of r) h

-- how many pieces were delivered
unfoldable pub delivered : List Entry → ℕ → ℕ
delivered h r = count_by (is_piece_of r) h

-- its document is current, and it has no End
unfoldable pub is_live_request : ScriptData → List Entry → ℕ → Bool
is_live_request s h r = option_map_or (is_current s h) (request_document h r) false && not (has_end h r)

-- a live request of document d
abbrev pub is_request_of : ScriptData → List Entry → ℕ → ℕ → Bool
is_request_of s h d r = is_live_request s h r && option_map_or (λ document. document == d) (request_document h r) false

-- a document has a live request
unfoldable pub has_live_request : ScriptData → List Entry → ℕ → Bool
has_live_request s h d = list_any (is_request_of s h d) (requests h)

-- the URL names itself: it is that of a page of class Web as it was read
abbrev pub is_read_web : List ℕ → Bool
is_read_web url = option_map_or (λ u. bytes_eq u url && is_web u) (result_ok (page_url_of url)) false

-- each URL of a chain is so. In a legal history of a script every chain of a request is
unfoldable pub is_read_chain : List (List ℕ) → Bool
is_read_chain chain = list_all is_read_web chain

-- in mode cors: the CORS check of the chain so far fails. It is made of URLs of class Web as they were read
unfoldable pub cors_fails : ScriptData → List Entry → ℕ → Bool
cors_fails s h r = is_cors (request_mode h r) && is_read_chain (request_chain h r) && option_map_or
    (λ origin. is_failed (cors origin (request_chain h r) (response s (request_chain h r)).head.fields))
    (request_origin h r) false

-- the verdict, by the script's policy, on all that a response's wire carries; of URLs of class Web as they were read. No other
-- word calls `verdict`
unfoldable pub response_verdict : ScriptData → Origin → List (List ℕ) → Mode → ResourceData → Option Verdict
response_verdict s origin chain mode r =
    if is_read_chain chain then verdict s.policy s.rules origin chain mode r.head (seen_body r) (has_ended r) else None

-- the verdict on the response of a request
unfoldable pub request_verdict : ScriptData → List Entry → ℕ → Option Verdict
request_verdict s h r = option_and_then
    (λ origin. response_verdict s origin (request_chain h r) (request_mode h r) (response s (request_chain h r)))
    (request_origin h r)

-- The generated script of a number: eight pages, eight frames and 32 responses, all on hosts of their own. The number's draws say
-- which frames the pages add and what is fetched. Own format.
use Rattle.std.specs.Prelude.{◌+◌, ◌-◌, ◌*◌, ◌/◌, ◌%◌, ◌==◌, ◌++◌, ◌∷◌, [], Bool, List, None, codes, decimal, drop, false, if◌then◌else◌, length, map, replicate, take, true, unwrap_or, slice_get, slice_range, ℕ}
use Rattle.std.specs.List.{range_with_len}
use Rattle.http_header.specs.HeaderMap.{Entries}
use Rattle.public_suffix.specs.Reading.{lines, rules_on}
use Rattle.history_entry.specs.declared.body.Mode.{Mode}
use Rattle.history_entry.specs.declared.body.Mode.TheVariants.{Cors, NoCors}
use Rattle.history_entry.specs.declared.body.Src.TheVariants.{Url}
use Rattle.history_entry.specs.declared.body.Target.TheVariants.{Any}
use Rattle.history_entry.specs.declared.policy.Policy.TheVariants.{Two}
use Rattle.script_model.specs.ResourceData.{ResourceData, empty_resource}
use Rattle.script_model.specs.ScriptData.{ScriptData}
use Rattle.script_model.specs.declared.action.Action.{Action}
use Rattle.script_model.specs.declared.action.Action.TheVariants.{Ask, Fetch, Frame, Post, Recv, Wait}
use Rattle.script_model.specs.declared.action.FrameRef.TheVariants.{Parent}
use Rattle.script_gen.specs.Draws.{draws}

-- the URL of a page, of a frame's document and of a response, by its number
unfoldable pub page_url : ℕ → List ℕ
page_url page = codes "https://p" ++ decimal page ++ codes ".test/"

unfoldable pub frame_url : ℕ → List ℕ
frame_url frame = codes "https://f" ++ decimal frame ++ codes ".test/"

unfoldable pub response_url : ℕ → List ℕ
response_url response = codes "https://b" ++ decimal response ++ codes ".test/r"

-- an unsandboxed frame, by a draw
unfoldable pub add_frame : ℕ → Action
add_frame draw = Frame (Url (frame_url (draw % 8))) false

-- the mode of a fetch, by its draw
unfoldable pub fetch_mode : ℕ → Mode
fetch_mode draw = if draw / 32 % 2 == 0 then NoCors else Cors

-- a fetch of one of the responses, by its draw
unfoldable pub fetch : ℕ → Action
fetch draw = Fetch (response_url (draw % 32)) (fetch_mode draw)

-- a fetch by each of these draws, and a wait for all of them
unfoldable pub fetch_all : List ℕ → List Action
fetch_all draws = map fetch draws ++ Wait ∷ []

-- a request to the service `store`
abbrev pub ask_store : List ℕ → Action
ask_store request = Ask (codes "store") request

-- the request by which a page keeps its name
abbrev pub ask_to_set : ℕ → Action
ask_to_set page = ask_store (codes "set k v" ++ decimal page)

-- a post to the frame's parent, whatever its origin
abbrev pub post_done : Action
post_done = Post Parent Any (codes "done")

-- what a page does, by 59 draws, three for frames and 56 for fetches; then it takes three posts and keeps its name
unfoldable pub page_actions : ℕ → List ℕ → List Action
page_actions page draws = map add_frame (take 3 draws) ++ fetch_all (drop 3 draws)
    ++ replicate 3 Recv ++ ask_to_set page ∷ []

-- what a frame's document does, by 56 draws for fetches; then it posts to the page and asks for the name
unfoldable pub frame_actions : List ℕ → List Action
frame_actions draws = fetch_all draws ++ post_done ∷ ask_store (codes "get k") ∷ []

-- a page takes 59 draws behind those of the pages before it
unfoldable pub page_resource : List ℕ → ℕ → ResourceData
page_resource draws page = record (empty_resource (page_url page)) {
  actions = page_actions page (slice_range draws (59 * page) (59 * page + 59));
}

-- a frame's document takes 56 draws behind those of the eight pages and of the frames before it
unfoldable pub frame_resource : List ℕ → ℕ → ResourceData
frame_resource draws frame = record (empty_resource (frame_url frame)) {
  actions = frame_actions (slice_range draws (472 + 56 * frame) (472 + 56 * frame + 56));
}

-- how many bytes the body of a response has
abbrev pub body_size : ℕ → ℕ
body_size response = 512 * (response + 1)

-- what a body begins with in place of letters
unfoldable pub body_front : ℕ → List ℕ
body_front response = if response % 5 == 0 then codes "<html>"
    else (if response % 5 == 1 then codes "{\"a\":" else [])

-- the byte of a body at a place: letters from a to z, over and over
unfoldable pub letter : ℕ → ℕ
letter place = 97 + place % 26

-- the body of a response: letters behind its front
unfoldable pub body : ℕ → List ℕ
body response = body_front response
    ++ map letter (range_with_len (length (body_front response)) (body_size response - length (body_front response)))

-- a body is cut at each multiple of 256 within it
unfoldable pub cuts : ℕ → List ℕ
cuts response = map (λ piece. 256 * piece) (range_with_len 1 ((body_size response - 1) / 256))

-- the content types, one response after another
abbrev pub content_types : List (List ℕ)
content_types = codes "text/html" ∷ codes "text/xml" ∷ codes "application/json" ∷ codes "text/plain" ∷ codes "text/css"
    ∷ codes "text/javascript" ∷ codes "image/png" ∷ codes "application/json" ∷ []

abbrev pub content_type : ℕ → List ℕ
content_type response = unwrap_or (slice_get content_types (response % 8)) []

-- every eighth response is not to be sniffed, and every third is open to all origins
abbrev pub has_nosniff : ℕ → Bool
has_nosniff response = response % 8 == 7

abbrev pub is_open : ℕ → Bool
is_open response = response % 3 == 0

-- the header fields of a response: its content type, then `nosniff`, then the leave for all origins
unfoldable pub typed_fields : ℕ → Entries (List ℕ)
typed_fields response = (codes "content-type", content_type response ∷ []) ∷ []

unfoldable pub sniffed_fields : ℕ → Entries (List ℕ)
sniffed_fields response = typed_fields response
    ++ (if has_nosniff response then (codes "x-content-type-options", codes "nosniff" ∷ []) ∷ [] else [])

unfoldable pub fields : ℕ → Entries (List ℕ)
fields response = sniffed_fields response
    ++ (if is_open response then (codes "access-control-allow-origin", codes "*" ∷ []) ∷ [] else [])

-- a resource of these parts, with status 200, whose wire does not fail, and without actions
abbrev pub plain_response : List ℕ → Entries (List ℕ) → List ℕ → List ℕ → ResourceData
plain_response url fields body cuts = record {
  url = url;
  head = record { status = 200; fields = fields };
  body = body;
  cuts = cuts;
  fail_after = None;
  actions = [];
}

-- a response
unfoldable pub response_resource : ℕ → ResourceData
response_resource response = plain_response (response_url response) (fields response) (body response) (cuts response)

-- the text of the suffix rules
abbrev pub suffix_text : List ℕ
suffix_text = codes "test" ++ 10 ∷ []

-- pages, frames and responses, by 920 draws
unfoldable pub resources : List ℕ → List ResourceData
resources draws = map (page_resource draws) (range_with_len 0 8) ++ map (frame_resource draws) (range_with_len 0 8)
    ++ map response_resource (range_with_len 0 32)

-- the script of a number
unfoldable pub generated : ℕ → ScriptData
generated number = record {
  policy = Two;
  rules = record { suffixes = rules_on (lines suffix_text); isolated = [] };
  spare = true;
  soft_limit = 16;
  start = map page_url (range_with_len 0 8);
  resources = resources (draws number 920);
}

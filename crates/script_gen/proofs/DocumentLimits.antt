-- The documents of a generated script keep the limits of resources.
use Rattle.std.proofs.Common.{◌≡◌, ◌<◌, ◌≤◌, ◌+◌, ◌*◌, ◌%◌, ℕ, Bool, List, [], ◌∷◌, ◌++◌, length, map, take, drop, refl, true, arith, length-append}
use Rattle.std.specs.Prelude.{All, codes, decimal, nat_le, replicate, slice_range}
use Rattle.std.specs.List.{list_all, range_with_len}
use Rattle.std.proofs.lemmas.Bool.Decides.{nat_tests}
use Rattle.std.proofs.lemmas.List.{length-drop, length-map, length-replicate, length-take}
use Rattle.std.proofs.lemmas.List.Elements.{All-append, All-cons, All-map, All-nil, All-push, All-replicate}
use Rattle.url.proofs.OnLiterals.{url_on_literals}
use Rattle.page_origin.specs.PageUrls.{class_of}
use Rattle.page_origin.specs.declared.class.UrlClass.TheVariants.{Web}
use Rattle.script_model.specs.ActionLimits.{IsAction, IsActionAmong}
use Rattle.script_model.specs.ResourceData.{IsCuts, IsHeader, IsHeaders, IsResource, empty_resource}
use Rattle.script_model.specs.declared.action.Action.{Action}
use Rattle.script_model.specs.declared.action.Action.TheVariants.{Recv, Wait}
use Rattle.script_gen.specs.Generated.{add_frame, ask_store, ask_to_set, fetch, fetch_all, frame_actions, frame_resource, frame_url, page_actions, page_resource, page_url, post_done, response_url}
use Rattle.script_gen.proofs.OwnUrls.{frame_is_web, page_is_web}
use Rattle.script_gen.proofs.Ranges.{at_range}

abbrev is_short : List ℕ → Bool
is_short text = nat_le (length text) 64

short_by : (text : List ℕ) → is_short text ≡ true → length text ≤ 64
short_by text is = grind (arith, nat_tests)

short_frames : list_all is_short (map frame_url (range_with_len 0 8)) ≡ true
unfolding url_on_literals frame_url
short_frames = refl

short_responses : list_all is_short (map response_url (range_with_len 0 32)) ≡ true
unfolding url_on_literals response_url
short_responses = refl

abbrev set_request : ℕ → List ℕ
set_request page = codes "set k v" ++ decimal page

short_requests : list_all is_short (map set_request (range_with_len 0 8)) ≡ true
unfolding url_on_literals
short_requests = refl

frame_length : (draw : ℕ) → length (frame_url (draw % 8)) ≤ 64
frame_length draw = short_by (frame_url (draw % 8)) (at_range is_short frame_url 8 (draw % 8) short_frames (omega arith))

response_length : (draw : ℕ) → length (response_url (draw % 32)) ≤ 64
response_length draw = short_by (response_url (draw % 32)) (at_range is_short response_url 32 (draw % 32) short_responses (omega arith))

request_length : (page : ℕ) → page < 8 → length (set_request page) ≤ 64
request_length page below = short_by (set_request page) (at_range is_short set_request 8 page short_requests below)

kept_frame : (draw : ℕ) → IsAction (add_frame draw)
unfolding add_frame
kept_frame draw = let short = frame_length draw in omega arith

kept_fetch : (draw : ℕ) → IsAction (fetch draw)
unfolding fetch
kept_fetch draw = let short = response_length draw in omega arith

kept_set : (page : ℕ) → page < 8 → IsAction (ask_to_set page)
kept_set page below = let short = request_length page below in (record { some = omega arith; short = omega arith }, omega arith)

kept_fetches : (draws : List ℕ) → All IsAction (fetch_all draws)
unfolding fetch_all
kept_fetches draws = All-push IsAction (map fetch draws) Wait (All-map IsAction fetch draws (λ k d within. kept_fetch _)) tt

kept_page : (page : ℕ) (draws : List ℕ) → page < 8 → All IsAction (page_actions page draws)
unfolding page_actions
kept_page page draws below =
    All-push IsAction (map add_frame (take 3 draws) ++ fetch_all (drop 3 draws) ++ replicate 3 Recv) (ask_to_set page)
    (All-append IsAction (map add_frame (take 3 draws) ++ fetch_all (drop 3 draws)) (replicate 3 Recv)
    (All-append IsAction (map add_frame (take 3 draws)) (fetch_all (drop 3 draws)) (All-map IsAction add_frame (take 3 draws) (λ k d within. kept_frame _)) (kept_fetches (drop 3 draws)))
    (All-replicate IsAction 3 Recv tt))
    (kept_set page below)

kept_frame_document : (draws : List ℕ) → All IsAction (frame_actions draws)
unfolding frame_actions
kept_frame_document draws =
    let get = ask_store (codes "get k") in
    All-append IsAction (fetch_all draws) (post_done ∷ get ∷ []) (kept_fetches draws)
    (All-cons IsAction post_done (get ∷ []) (tt, omega arith)
    (All-cons IsAction get [] (record { some = omega arith; short = omega arith }, omega arith) (All-nil IsAction)))

slice_length : (draws : List ℕ) (from count : ℕ) → length (slice_range draws from (from + count)) ≤ count
slice_length draws from count = simp length-take (omega arith)

fetches_length : (draws : List ℕ) → length (fetch_all draws) ≡ length draws + 1
unfolding fetch_all
fetches_length draws = simp (length-append, length-map)

page_length : (page : ℕ) (draws : List ℕ) → length draws ≤ 59 → length (page_actions page draws) ≤ 64
unfolding page_actions
page_length page draws few = simp (length-append, length-map, length-take, fetches_length, length-drop, length-replicate) (omega arith)

frame_document_length : (draws : List ℕ) → length draws ≤ 56 → length (frame_actions draws) ≤ 64
unfolding frame_actions
frame_document_length draws few = simp (length-append, fetches_length) (omega arith)

no_headers : IsHeaders []
no_headers = record { few = omega arith; short = All-nil IsHeader }

no_cuts : (size : ℕ) → IsCuts size []
no_cuts size = record { few = omega arith; rising = λ k h. absurd (omega arith); within = All-nil (λ cut. (0 < cut) × (cut < size)) }

-- a resource of class Web of which a script says only the URL and few actions
document_is_kept : (url : List ℕ) (actions : List Action) → class_of url ≡ Web → length actions ≤ 64 → All IsAction actions → IsResource (record (empty_resource url) { actions = actions })
document_is_kept url actions web few kept = record {
  class = rw web refl;
  lowest_status = omega arith;
  highest_status = omega arith;
  headers = no_headers;
  short_body = omega arith;
  cuts = no_cuts 0;
  fault = tt;
  few_actions = few;
  actions = kept;
}

-- a page of a script
pub page_is_kept : (draws : List ℕ) (page : ℕ) → page < 8 → IsResource (page_resource draws page)
unfolding page_resource
page_is_kept draws page below =
    let web = page_is_web page below in
    let share = slice_range draws (59 * page) (59 * page + 59) in
    document_is_kept (page_url page) (page_actions page share) web (page_length page share (slice_length draws (59 * page) 59)) (kept_page page share below)

-- a frame's document
pub frame_is_kept : (draws : List ℕ) (frame : ℕ) → frame < 8 → IsResource (frame_resource draws frame)
unfolding frame_resource
frame_is_kept draws frame below =
    let web = frame_is_web frame below in
    let share = slice_range draws (472 + 56 * frame) (472 + 56 * frame + 56) in
    document_is_kept (frame_url frame) (frame_actions share) web (frame_document_length share (slice_length draws (472 + 56 * frame) 56)) (kept_frame_document share)

frame_names_none : (count draw : ℕ) → IsActionAmong count (add_frame draw)
unfolding add_frame
frame_names_none count draw = tt

fetch_names_none : (count draw : ℕ) → IsActionAmong count (fetch draw)
unfolding fetch
fetch_names_none count draw = tt

among_fetches : (count : ℕ) (draws : List ℕ) → All (IsActionAmong count) (fetch_all draws)
unfolding fetch_all
among_fetches count draws = All-push (IsActionAmong count) (map fetch draws) Wait (All-map (IsActionAmong count) fetch draws (λ k d within. fetch_names_none count _)) tt

among_page : (count page : ℕ) (draws : List ℕ) → All (IsActionAmong count) (page_actions page draws)
unfolding page_actions
among_page count page draws =
    All-push (IsActionAmong count) (map add_frame (take 3 draws) ++ fetch_all (drop 3 draws) ++ replicate 3 Recv) (ask_to_set page)
    (All-append (IsActionAmong count) (map add_frame (take 3 draws) ++ fetch_all (drop 3 draws)) (replicate 3 Recv)
    (All-append (IsActionAmong count) (map add_frame (take 3 draws)) (fetch_all (drop 3 draws)) (All-map (IsActionAmong count) add_frame (take 3 draws) (λ k d within. frame_names_none count _)) (among_fetches count (drop 3 draws)))
    (All-replicate (IsActionAmong count) 3 Recv tt))
    tt

among_frame : (count : ℕ) (draws : List ℕ) → All (IsActionAmong count) (frame_actions draws)
unfolding frame_actions
among_frame count draws =
    let get = ask_store (codes "get k") in
    All-append (IsActionAmong count) (fetch_all draws) (post_done ∷ get ∷ []) (among_fetches count draws)
    (All-cons (IsActionAmong count) post_done (get ∷ []) tt
    (All-cons (IsActionAmong count) get [] tt (All-nil (IsActionAmong count))))

-- the documents name no resource by its index
pub page_among : (count page : ℕ) (draws : List ℕ) → All (IsActionAmong count) (page_resource draws page).actions
unfolding page_resource
page_among count page draws = among_page count page (slice_range draws (59 * page) (59 * page + 59))

pub frame_among : (count frame : ℕ) (draws : List ℕ) → All (IsActionAmong count) (frame_resource draws frame).actions
unfolding frame_resource
frame_among count frame draws = among_frame count (slice_range draws (472 + 56 * frame) (472 + 56 * frame + 56))

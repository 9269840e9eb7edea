-- Navigations: their chains, whether they are pending or waiting, and the origins that they commit with. Own rules, after Chromium's
-- NavigationRequest and "determining the origin" of the HTML Standard; but a `data:` document's opaque origin keeps the initiator's
-- site, as that of a sandboxed document keeps its own.
use Rattle.std.specs.Prelude.{◌==◌, ◌&&◌, ◌∷◌, [], if◌then◌else◌, Bool, List, None, Option, Some, codes, false, filter_map, nat_lt, not, option_and_then, option_map, slice_get, unwrap_or, ℕ}
use Rattle.std.specs.List.{list_any}
use Rattle.std.specs.Option.{option_map_or}
use Rattle.std.specs.Result.{result_unwrap_or}
use Rattle.page_origin.specs.Origins.{tuple_of}
use Rattle.page_origin.specs.PageUrls.{class_of, page_url_of}
use Rattle.page_origin.specs.declared.class.UrlClass.{UrlClass}
use Rattle.page_origin.specs.declared.class.UrlClass.TheVariants.{AboutBlank, AboutSrcdoc, DataUrl, Foreign, Web}
use Rattle.page_origin.specs.declared.origin.Origin.{Origin}
use Rattle.page_origin.specs.declared.origin.Origin.TheVariants.{Opaque, Tuple}
use Rattle.site_url.specs.Sites.{site_of_origin}
use Rattle.history_entry.specs.declared.body.Body.{Body}
use Rattle.history_entry.specs.declared.body.Body.TheVariants.{AddFrame, Navigate, OpenPage}
use Rattle.history_entry.specs.declared.body.Message.{Message}
use Rattle.history_entry.specs.declared.body.Src.{Src}
use Rattle.history_entry.specs.declared.body.Src.TheVariants.{Doc as FromDoc, Url as FromUrl}
use Rattle.history_entry.specs.declared.entry.Entry.{Entry}
use Rattle.history_entry.specs.declared.entry.Entry.TheVariants.{Hop}
use Rattle.history_entry.specs.declared.entry.HopOf.TheVariants.{Nav}
use Rattle.history_rules.specs.Orders.{order_of, was_ordered}
use Rattle.script_model.specs.ScriptData.{ScriptData, starts}
use Rattle.history_rules.specs.Documents.{documents, is_present, origin_of}
use Rattle.history_rules.specs.Entries.{commits, ends_navigation, opens}
use Rattle.history_rules.specs.Frames.{adder_of, frame_of, is_sandboxed, navigation_maker, navigations_made}
use Rattle.history_rules.specs.Processes.{is_dead}
use Rattle.history_rules.specs.Redirects.{last_url}

-- a redirect of navigation n that was followed
abbrev pub hop_of_navigation : ℕ → Entry → Option (List ℕ)
hop_of_navigation n (Hop (Nav m) url) = if m == n then Some url else None
hop_of_navigation n _ = None

-- the URL that an accepted text names
abbrev pub url_of_text : List ℕ → List ℕ
url_of_text text = result_unwrap_or (page_url_of text) []

-- the first URL of a frame's source: a resource has `about:srcdoc`
abbrev pub src_url : Src → List ℕ
src_url (FromUrl text) = url_of_text text
src_url (FromDoc index) = codes "about:srcdoc"

-- the first URL of the navigation that a message begins
abbrev pub body_url : Body → List ℕ
body_url (Navigate frame url initiator) = url_of_text url
body_url (AddFrame src sandbox) = src_url src
body_url (OpenPage url) = url_of_text url
body_url _ = []

-- the first URL of a navigation: that of a start page is the script's
unfoldable pub first_url : ScriptData → List Entry → ℕ → List ℕ
first_url s h n = if nat_lt n (starts s) then unwrap_or (slice_get s.start n) []
    else option_map_or (λ m. body_url m.body) (navigation_maker s h n) []

-- its URLs: the first, and one for each redirect that was followed
unfoldable pub chain_of : ScriptData → List Entry → ℕ → List (List ℕ)
chain_of s h n = first_url s h n ∷ filter_map (hop_of_navigation n) h

-- it began: a start page's when it is opened
unfoldable pub began : ScriptData → List Entry → ℕ → Bool
began s h n = if nat_lt n (starts s) then list_any (opens n) h else nat_lt n (navigations_made s h)

-- a later navigation of its frame began
unfoldable pub is_replaced : ScriptData → List Entry → ℕ → Bool
is_replaced s h n = list_any (λ m. nat_lt n m && frame_of s h m == frame_of s h n) (documents s h)

-- it began, its frame is present, and no later navigation of that frame began
unfoldable pub is_newest : ScriptData → List Entry → ℕ → Bool
is_newest s h n = began s h n && is_present s h (frame_of s h n) && not (is_replaced s h n)

-- it has an accepted commit
unfoldable pub is_committed : List Entry → ℕ → Bool
is_committed h n = list_any (commits n) h

-- it is the newest of its frame, and neither ended nor ordered
unfoldable pub is_pending : ScriptData → List Entry → ℕ → Bool
is_pending s h n = is_newest s h n && not (list_any (ends_navigation n) h) && not (was_ordered h n)

-- it is the newest of its frame, ordered to a process that is not dead, and not committed
unfoldable pub is_waiting : ScriptData → List Entry → ℕ → Bool
is_waiting s h n = is_newest s h n && option_map_or (λ order. not (is_dead h order.process)) (order_of h n) false && not (is_committed h n)

-- of a Navigate the claimed initiator, of all else the given origin
abbrev pub body_initiator : Option Origin → Body → Option Origin
body_initiator own (Navigate frame url initiator) = Some initiator
body_initiator own _ = own

-- the initiator: of a Navigate the claimed one, of a new frame or page the origin of the message's document
abbrev pub initiator_in : List Entry → Message → Option Origin
initiator_in h m = body_initiator (origin_of h m.document) m.body

-- the initiator of a navigation; a start page's has none
unfoldable pub initiator_of : ScriptData → List Entry → ℕ → Option Origin
initiator_of s h n = option_and_then (initiator_in h) (navigation_maker s h n)

-- a new opaque origin of navigation n with this origin's site
abbrev pub opaque_of : ScriptData → ℕ → Origin → Origin
opaque_of s n origin = Opaque (record { document = n; precursor = site_of_origin s.rules origin })

-- the base origin of a navigation by the class of its final URL: the URL's tuple, the initiator's origin, that of the document that
-- added the frame, or a new opaque one with the initiator's site
abbrev pub base_of_class : ScriptData → List Entry → ℕ → UrlClass → Option Origin
base_of_class s h n Web = Some (Tuple (tuple_of (last_url (chain_of s h n))))
base_of_class s h n AboutBlank = initiator_of s h n
base_of_class s h n AboutSrcdoc = option_and_then (origin_of h) (adder_of s h (frame_of s h n))
base_of_class s h n DataUrl = option_map (opaque_of s n) (initiator_of s h n)
base_of_class s h n Foreign = None

-- the base origin of a navigation
unfoldable pub base_origin : ScriptData → List Entry → ℕ → Option Origin
base_origin s h n = base_of_class s h n (class_of (last_url (chain_of s h n)))

-- the base origin, or in a sandboxed frame a new opaque one with its site
unfoldable pub commit_origin : ScriptData → List Entry → ℕ → Option Origin
commit_origin s h n = if is_sandboxed s h (frame_of s h n) then option_map (opaque_of s n) (base_origin s h n) else base_origin s h n

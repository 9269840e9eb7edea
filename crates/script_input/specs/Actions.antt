-- The actions of documents, by their word `do`. A row of the table tells the keys that are required and the keys that are
-- known, in order; then what stands at each is read in that order. `count` is the number of resources. Own format.
use Rattle.std.specs.Prelude.{ℕ, false, List, [], ◌∷◌, bytes_eq, codes, unwrap_or, Ok, if◌then◌else◌}
use Rattle.serde_json.specs.Data.{Data}
use Rattle.serde_json.specs.Find.{as_object}
use Rattle.script_model.specs.declared.action.Action.{Action}
use Rattle.script_model.specs.declared.action.Action.TheVariants.{Ask, Crash, Fetch, Frame, Navigate, Page, Post, Raw, Recv, Remove, Wait}
use Rattle.script_input.specs.Checked.{Checked, ◌>>=◌, below, refuse, typed}
use Rattle.script_input.specs.Refusals.{wrong_shape}
use Rattle.script_input.specs.Values.{bool_at, object_number_at, service_name_at, short_text_at, string_at, url_input_at}
use Rattle.script_input.specs.Objects.{object_at, optional, required}
use Rattle.script_input.specs.Words.{frame_ref_at, mode_at}
use Rattle.script_input.specs.Urls.{target_at}
use Rattle.script_input.specs.Frames.{one_source, source_at}
use Rattle.script_input.specs.RawMessages.{raw_message_at}

unfoldable pub frame_action : ℕ → Data → Checked Action
frame_action count d = do
  _ ← object_at [] (codes "do" ∷ codes "src" ∷ codes "srcdoc" ∷ codes "sandbox" ∷ []) d
  _ ← one_source d
  src ← source_at count d
  sandbox ← optional (codes "sandbox") bool_at d
  Ok (Frame src (unwrap_or sandbox false))

unfoldable pub remove_action : Data → Checked Action
remove_action d = do
  _ ← object_at (codes "child" ∷ []) (codes "do" ∷ codes "child" ∷ []) d
  child ← required (codes "child") object_number_at d
  Ok (Remove child)

unfoldable pub navigate_action : Data → Checked Action
navigate_action d = do
  _ ← object_at (codes "frame" ∷ codes "url" ∷ []) (codes "do" ∷ codes "frame" ∷ codes "url" ∷ []) d
  frame ← required (codes "frame") frame_ref_at d
  url ← required (codes "url") url_input_at d
  Ok (Navigate frame url)

unfoldable pub page_action : Data → Checked Action
page_action d = do
  _ ← object_at (codes "url" ∷ []) (codes "do" ∷ codes "url" ∷ []) d
  url ← required (codes "url") url_input_at d
  Ok (Page url)

unfoldable pub fetch_action : Data → Checked Action
fetch_action d = do
  _ ← object_at (codes "url" ∷ codes "mode" ∷ []) (codes "do" ∷ codes "url" ∷ codes "mode" ∷ []) d
  url ← required (codes "url") url_input_at d
  mode ← required (codes "mode") mode_at d
  Ok (Fetch url mode)

unfoldable pub post_action : Data → Checked Action
post_action d = do
  _ ← object_at (codes "frame" ∷ codes "target" ∷ codes "text" ∷ []) (codes "do" ∷ codes "frame" ∷ codes "target" ∷ codes "text" ∷ []) d
  frame ← required (codes "frame") frame_ref_at d
  target ← required (codes "target") target_at d
  text ← required (codes "text") short_text_at d
  Ok (Post frame target text)

unfoldable pub ask_action : Data → Checked Action
ask_action d = do
  _ ← object_at (codes "service" ∷ codes "request" ∷ []) (codes "do" ∷ codes "service" ∷ codes "request" ∷ []) d
  service ← required (codes "service") service_name_at d
  request ← required (codes "request") short_text_at d
  Ok (Ask service request)

-- an action without keys of its own
unfoldable pub plain_action : Action → Data → Checked Action
plain_action action d = do
  _ ← object_at [] (codes "do" ∷ []) d
  Ok action

unfoldable pub raw_action : ℕ → Data → Checked Action
raw_action count d = do
  _ ← object_at (codes "message" ∷ []) (codes "do" ∷ codes "message" ∷ []) d
  message ← required (codes "message") (raw_message_at count) d
  Ok (Raw message)

-- the row of a word; an unknown word is X2 at it
unfoldable pub action_by : List ℕ → ℕ → Data → Checked Action
action_by word count d =
    if bytes_eq word (codes "frame") then frame_action count d
    else (if bytes_eq word (codes "remove") then remove_action d
    else (if bytes_eq word (codes "navigate") then navigate_action d
    else (if bytes_eq word (codes "page") then page_action d
    else (if bytes_eq word (codes "fetch") then fetch_action d
    else (if bytes_eq word (codes "post") then post_action d
    else (if bytes_eq word (codes "ask") then ask_action d
    else (if bytes_eq word (codes "wait") then plain_action Wait d
    else (if bytes_eq word (codes "recv") then plain_action Recv d
    else (if bytes_eq word (codes "crash") then plain_action Crash d
    else (if bytes_eq word (codes "raw") then raw_action count d
    else below (codes "do") (refuse wrong_shape)))))))))))

-- an object whose word `do` is known, by its row
unfoldable pub action_at : ℕ → Data → Checked Action
action_at count d = do
  _ ← typed (as_object d)
  word ← required (codes "do") string_at d
  action_by word count d

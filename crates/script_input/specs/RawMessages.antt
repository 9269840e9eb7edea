-- Forged messages, by their word `is`. A row of the table tells the keys that are required and the keys that are known, in
-- order; then what stands at each is read in that order. `count` is the number of resources. Own format.
use Rattle.std.specs.Prelude.{ℕ, false, List, [], ◌∷◌, bytes_eq, codes, unwrap_or, Ok, if◌then◌else◌}
use Rattle.serde_json.specs.Data.{Data}
use Rattle.serde_json.specs.Find.{as_object}
use Rattle.script_model.specs.declared.action.RawMessage.{RawMessage}
use Rattle.script_model.specs.declared.action.RawBody.TheVariants.{Ask, Commit, Fetch, Frame, Navigate, Page, Post, Remove}
use Rattle.script_input.specs.Checked.{Checked, ◌>>=◌, below, refuse, typed}
use Rattle.script_input.specs.Refusals.{wrong_shape}
use Rattle.script_input.specs.Values.{bool_at, object_number_at, service_name_at, short_text_at, string_at, url_input_at}
use Rattle.script_input.specs.Objects.{object_at, optional, required}
use Rattle.script_input.specs.Words.{mode_at}
use Rattle.script_input.specs.Urls.{target_at, tuple_at}
use Rattle.script_input.specs.Frames.{one_source, source_at}

unfoldable pub navigate_message : Data → Checked RawMessage
navigate_message d = do
  _ ← object_at (codes "frame" ∷ codes "url" ∷ []) (codes "is" ∷ codes "document" ∷ codes "frame" ∷ codes "url" ∷ codes "initiator" ∷ []) d
  document ← optional (codes "document") object_number_at d
  frame ← required (codes "frame") object_number_at d
  url ← required (codes "url") url_input_at d
  initiator ← optional (codes "initiator") tuple_at d
  Ok (record { document = document; body = Navigate frame url initiator })

unfoldable pub frame_message : ℕ → Data → Checked RawMessage
frame_message count d = do
  _ ← object_at [] (codes "is" ∷ codes "document" ∷ codes "src" ∷ codes "srcdoc" ∷ codes "sandbox" ∷ []) d
  _ ← one_source d
  document ← optional (codes "document") object_number_at d
  src ← source_at count d
  sandbox ← optional (codes "sandbox") bool_at d
  Ok (record { document = document; body = Frame src (unwrap_or sandbox false) })

unfoldable pub remove_message : Data → Checked RawMessage
remove_message d = do
  _ ← object_at (codes "frame" ∷ []) (codes "is" ∷ codes "document" ∷ codes "frame" ∷ []) d
  document ← optional (codes "document") object_number_at d
  frame ← required (codes "frame") object_number_at d
  Ok (record { document = document; body = Remove frame })

unfoldable pub page_message : Data → Checked RawMessage
page_message d = do
  _ ← object_at (codes "url" ∷ []) (codes "is" ∷ codes "document" ∷ codes "url" ∷ []) d
  document ← optional (codes "document") object_number_at d
  url ← required (codes "url") url_input_at d
  Ok (record { document = document; body = Page url })

unfoldable pub fetch_message : Data → Checked RawMessage
fetch_message d = do
  _ ← object_at (codes "url" ∷ codes "mode" ∷ []) (codes "is" ∷ codes "document" ∷ codes "url" ∷ codes "mode" ∷ codes "initiator" ∷ []) d
  document ← optional (codes "document") object_number_at d
  url ← required (codes "url") url_input_at d
  mode ← required (codes "mode") mode_at d
  initiator ← optional (codes "initiator") tuple_at d
  Ok (record { document = document; body = Fetch url mode initiator })

unfoldable pub post_message : Data → Checked RawMessage
post_message d = do
  _ ← object_at (codes "frame" ∷ codes "target" ∷ codes "text" ∷ []) (codes "is" ∷ codes "document" ∷ codes "frame" ∷ codes "target" ∷ codes "source" ∷ codes "text" ∷ []) d
  document ← optional (codes "document") object_number_at d
  frame ← required (codes "frame") object_number_at d
  target ← required (codes "target") target_at d
  source ← optional (codes "source") tuple_at d
  text ← required (codes "text") short_text_at d
  Ok (record { document = document; body = Post frame target source text })

unfoldable pub ask_message : Data → Checked RawMessage
ask_message d = do
  _ ← object_at (codes "service" ∷ codes "request" ∷ []) (codes "is" ∷ codes "document" ∷ codes "service" ∷ codes "origin" ∷ codes "request" ∷ []) d
  document ← optional (codes "document") object_number_at d
  service ← required (codes "service") service_name_at d
  origin ← optional (codes "origin") tuple_at d
  request ← required (codes "request") short_text_at d
  Ok (record { document = document; body = Ask service origin request })

unfoldable pub commit_message : Data → Checked RawMessage
commit_message d = do
  _ ← object_at (codes "nav" ∷ codes "url" ∷ codes "origin" ∷ []) (codes "is" ∷ codes "document" ∷ codes "nav" ∷ codes "url" ∷ codes "origin" ∷ []) d
  document ← optional (codes "document") object_number_at d
  nav ← required (codes "nav") object_number_at d
  url ← required (codes "url") url_input_at d
  origin ← required (codes "origin") tuple_at d
  Ok (record { document = document; body = Commit nav url origin })

-- the row of a word; an unknown word is X2 at it
unfoldable pub raw_message_by : List ℕ → ℕ → Data → Checked RawMessage
raw_message_by word count d =
    if bytes_eq word (codes "navigate") then navigate_message d
    else (if bytes_eq word (codes "frame") then frame_message count d
    else (if bytes_eq word (codes "remove") then remove_message d
    else (if bytes_eq word (codes "page") then page_message d
    else (if bytes_eq word (codes "fetch") then fetch_message d
    else (if bytes_eq word (codes "post") then post_message d
    else (if bytes_eq word (codes "ask") then ask_message d
    else (if bytes_eq word (codes "commit") then commit_message d
    else below (codes "is") (refuse wrong_shape))))))))

-- an object whose word `is` is known, by its row
unfoldable pub raw_message_at : ℕ → Data → Checked RawMessage
raw_message_at count d = do
  _ ← typed (as_object d)
  word ← required (codes "is") string_at d
  raw_message_by word count d

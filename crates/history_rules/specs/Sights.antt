-- What a document sees of a history when its actions become messages, and its next action. Own rules.
use Rattle.std.specs.Prelude.{◌==◌, if◌then◌else◌, Bool, List, None, Option, Some, bytes_eq, false, filter, option_and_then, option_map, position, true, ℕ}
use Rattle.std.specs.List.{range_with_len}
use Rattle.std.specs.Option.{option_map_or}
use Rattle.page_origin.specs.PageUrls.{class_of, key_of}
use Rattle.page_origin.specs.declared.class.UrlClass.{UrlClass}
use Rattle.page_origin.specs.declared.class.UrlClass.TheVariants.{AboutBlank, AboutSrcdoc, DataUrl, Foreign, Web}
use Rattle.page_origin.specs.declared.origin.Origin.{Origin}
use Rattle.history_entry.specs.declared.body.Body.{Body}
use Rattle.history_entry.specs.declared.body.Body.TheVariants.{AddFrame}
use Rattle.history_entry.specs.declared.body.Src.{Src}
use Rattle.history_entry.specs.declared.body.Src.TheVariants.{Doc as FromDoc, Url as FromUrl}
use Rattle.history_entry.specs.declared.entry.Entry.{Entry}
use Rattle.script_model.specs.ScriptData.{ScriptData}
use Rattle.script_model.specs.declared.action.Action.{Action}
use Rattle.history_rules.specs.Actions.{act_in, action_in}
use Rattle.history_rules.specs.Documents.{actions_done, document_url, origin_of}
use Rattle.history_rules.specs.Frames.{adder_of, frame_maker, frame_of, frames_made, opener_of, parent_of, top_of}
use Rattle.history_rules.specs.declared.act.Act.{Act}
use Rattle.history_rules.specs.declared.act.Act.TheVariants.{Done}
use Rattle.history_rules.specs.declared.sight.Sight.{Sight}

-- the number of the resource that a source names
abbrev pub src_index : Src → Option ℕ
src_index (FromUrl text) = None
src_index (FromDoc index) = Some index

-- the number of the resource that a message adds a frame with
abbrev pub body_srcdoc : Body → Option ℕ
body_srcdoc (AddFrame src sandbox) = src_index src
body_srcdoc _ = None

-- the number of the resource that a frame was added with
abbrev pub srcdoc_of : ScriptData → List Entry → ℕ → Option ℕ
srcdoc_of s h f = option_and_then (λ m. body_srcdoc m.body) (frame_maker s h f)

-- the class is AboutSrcdoc
abbrev pub is_srcdoc : UrlClass → Bool
is_srcdoc Web = false
is_srcdoc AboutBlank = false
is_srcdoc AboutSrcdoc = true
is_srcdoc DataUrl = false
is_srcdoc Foreign = false

-- the number of the resource of a URL
abbrev pub resource_number : ScriptData → List ℕ → Option ℕ
resource_number s url = position (λ r. bytes_eq (key_of r.url) (key_of url)) s.resources

-- the resource that has a document's actions: for `about:srcdoc` the one that its frame names, else the one of its URL
unfoldable pub resource_of_document : ScriptData → List Entry → ℕ → Option ℕ
resource_of_document s h d = option_and_then
    (λ url. if is_srcdoc (class_of url) then srcdoc_of s h (frame_of s h d) else resource_number s url)
    (document_url h d)

-- the frames of the AddFrame messages that named the document and were answered ok, whoever sent them
unfoldable pub added_by : ScriptData → List Entry → ℕ → List ℕ
added_by s h d = filter (λ f. option_map_or (λ adder. adder == d) (adder_of s h f) false) (range_with_len 0 (frames_made s h))

-- the sight of a document with this origin
abbrev pub sight_with : ScriptData → List Entry → ℕ → Origin → Sight
sight_with s h d origin = record {
  document = d;
  resource = resource_of_document s h d;
  origin = origin;
  frame = frame_of s h d;
  parent = parent_of s h (frame_of s h d);
  top = top_of s h (frame_of s h d);
  opener = opener_of s h (frame_of s h d);
  added = added_by s h d;
}

-- what a document sees; one that was never ordered sees nothing
unfoldable pub sight_of : ScriptData → List Entry → ℕ → Option Sight
sight_of s h d = option_map (sight_with s h d) (origin_of h d)

-- action k of a document
abbrev pub action_of : ScriptData → List Entry → ℕ → ℕ → Option Action
action_of s h d k = option_and_then (λ sight. action_in s sight k) (sight_of s h d)

-- what action k of a document comes to
unfoldable pub act_of : ScriptData → List Entry → ℕ → ℕ → Act
act_of s h d k = option_map_or (λ sight. act_in s sight k) (sight_of s h d) Done

-- the next action of a document
unfoldable pub next_act : ScriptData → List Entry → ℕ → Act
next_act s h d = act_of s h d (actions_done h d)

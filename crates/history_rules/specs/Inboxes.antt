-- The inbox of a document: the posts that were delivered to it, without those that it took, first in, first out. Own rules, after
-- `window.postMessage` of the HTML Standard.
use Rattle.std.specs.Prelude.{◌==◌, ◌&&◌, [], if◌then◌else◌, Bool, List, None, Option, Some, count_by, drop, false, filter_map, length, option_and_then, slice_get, take, true, ℕ}
use Rattle.std.specs.List.{range_with_len}
use Rattle.std.specs.Option.{option_map_or}
use Rattle.history_entry.specs.declared.body.Body.{Body}
use Rattle.history_entry.specs.declared.body.Body.TheVariants.{Post}
use Rattle.history_entry.specs.declared.entry.Entry.{Entry}
use Rattle.history_entry.specs.declared.entry.Entry.TheVariants.{Local}
use Rattle.history_entry.specs.declared.entry.LocalWhat.{LocalWhat}
use Rattle.history_entry.specs.declared.entry.LocalWhat.TheVariants.{Skipped, Took, Waited}
use Rattle.script_model.specs.ScriptData.{ScriptData}
use Rattle.script_model.specs.declared.post.Posted.{Posted}
use Rattle.history_rules.specs.Documents.{document_in, is_current}
use Rattle.history_rules.specs.Entries.{accepted}

-- a post: the frame that it names, and what an inbox gets of it
pub record PostData : Type 0 where
  pub frame : ℕ
  pub posted : Posted

-- the post of a message
abbrev pub body_post : Body → Option PostData
body_post (Post frame target source text) = Some (record { frame = frame; posted = record { source = source; text = text } })
body_post _ = None

-- a post that was accepted
abbrev pub post_in : Entry → Option PostData
post_in e = option_and_then (λ m. body_post m.body) (accepted e)

-- the post at place i, where its frame's current document was d at that moment
abbrev pub post_at : ScriptData → List Entry → ℕ → ℕ → Option Posted
post_at s h d i = option_and_then
    (λ post. if option_map_or (λ c. c == d) (document_in s (take i h) post.frame) false then Some post.posted else None)
    (option_and_then post_in (slice_get h i))

-- the posts that were delivered to a document
unfoldable pub posts_to : ScriptData → List Entry → ℕ → List Posted
posts_to s h d = filter_map (post_at s h d) (range_with_len 0 (length h))

-- a post was taken
abbrev pub is_took : LocalWhat → Bool
is_took Waited = false
is_took Skipped = false
is_took (Took source text) = true

-- document d took a post
abbrev pub takes : ℕ → Entry → Bool
takes d (Local p document k what) = (document == d) && is_took what
takes d _ = false

-- the posts that a document has not taken yet; one that is lost has none
unfoldable pub inbox : ScriptData → List Entry → ℕ → List Posted
inbox s h d = if is_current s h d then drop (count_by (takes d) h) (posts_to s h d) else []

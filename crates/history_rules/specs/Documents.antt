-- Documents: which are current, and what they are. Own rules, after Chromium's RenderFrameHost. A document has the number of its
-- navigation.
-- No fact here looks at an earlier moment, which is right of legal histories: a document commits once, in a frame that is present,
-- and no dead process commits, so a frame is present exactly while each document that added it or an ancestor is current.
use Rattle.std.specs.Prelude.{◌==◌, ◌&&◌, ◌||◌, if◌then◌else◌, Bool, List, None, Option, Some, count_by, false, filter, not, option_and_then, option_map, true, ℕ}
use Rattle.std.specs.List.{list_all, list_any, range_with_len}
use Rattle.std.specs.Option.{option_map_or}
use Rattle.page_origin.specs.declared.origin.Origin.{Origin}
use Rattle.history_entry.specs.declared.entry.Entry.{Entry}
use Rattle.history_rules.specs.Orders.{order_of}
use Rattle.script_model.specs.ScriptData.{ScriptData}
use Rattle.history_rules.specs.Entries.{CommitData, commit_in, hosts, is_done_by, last_match, removes}
use Rattle.history_rules.specs.Frames.{adder_of, frame_of, is_descendant, is_sandboxed, lineage, navigations_made, opener_of, top_of, was_made}
use Rattle.history_rules.specs.Processes.{is_dead}

-- an accepted commit in frame f
abbrev pub commit_at : ScriptData → List Entry → ℕ → Entry → Option CommitData
commit_at s h f e = option_and_then (λ c. if frame_of s h c.document == f then Some c else None) (commit_in e)

-- the last commit in a frame
unfoldable pub last_in : ScriptData → List Entry → ℕ → Option CommitData
last_in s h f = last_match (commit_at s h f) h

-- the document of a commit unless its process is dead
abbrev pub living : List Entry → CommitData → Option ℕ
living h c = if is_dead h c.process then None else Some c.document

-- document d is the last of its frame, and its process is not dead
abbrev pub is_last_living : ScriptData → List Entry → ℕ → Bool
is_last_living s h d = option_map_or (λ c. c == d) (option_and_then (living h) (last_in s h (frame_of s h d))) false

-- a message removed the frame
abbrev pub was_removed : List Entry → ℕ → Bool
was_removed h f = list_any (removes f) h

-- the frame was not removed, and the document that added it is neither replaced nor lost
unfoldable pub is_kept : ScriptData → List Entry → ℕ → Bool
is_kept s h f = not (was_removed h f) && option_map_or (is_last_living s h) (adder_of s h f) true

-- the frame was made, and it and its ancestors are kept
unfoldable pub is_present : ScriptData → List Entry → ℕ → Bool
is_present s h f = was_made s h f && list_all (is_kept s h) (lineage s h f)

-- the current document of a frame
unfoldable pub document_in : ScriptData → List Entry → ℕ → Option ℕ
document_in s h f = if is_present s h f then option_and_then (living h) (last_in s h f) else None

-- the document is the current one of its frame
unfoldable pub is_current : ScriptData → List Entry → ℕ → Bool
is_current s h d = option_map_or (λ c. c == d) (document_in s h (frame_of s h d)) false

-- the numbers of navigations and documents
abbrev pub documents : ScriptData → List Entry → List ℕ
documents s h = range_with_len 0 (navigations_made s h)

-- the current documents by rising number
abbrev pub current_documents : ScriptData → List Entry → List ℕ
current_documents s h = filter (is_current s h) (documents s h)

-- the document was ever a committed document of the process
unfoldable pub hosted : List Entry → ℕ → ℕ → Bool
hosted h p d = list_any (hosts p d) h

-- the process of a commit of document d
abbrev pub process_in : ℕ → Entry → Option ℕ
process_in d e = option_and_then (λ c. if c.document == d then Some c.process else None) (commit_in e)

-- the process that committed a document
unfoldable pub process_of : List Entry → ℕ → Option ℕ
process_of h d = last_match (process_in d) h

-- the document is current, in process p
abbrev pub is_current_in : ScriptData → List Entry → ℕ → ℕ → Bool
is_current_in s h p d = is_current s h d && hosted h p d

-- the origin of a document: that of its order
unfoldable pub origin_of : List Entry → ℕ → Option Origin
origin_of h d = option_map (λ order. order.origin) (order_of h d)

-- the URL of a document: that of its order
unfoldable pub document_url : List Entry → ℕ → Option (List ℕ)
document_url h d = option_map (λ order. order.url) (order_of h d)

-- how many actions a document has done
unfoldable pub actions_done : List Entry → ℕ → ℕ
actions_done h d = count_by (is_done_by d) h

-- a document's own frame, a descendant of it, its page's top frame and its page's opener; in a sandboxed frame the first two alone
unfoldable pub may_navigate : ScriptData → List Entry → ℕ → ℕ → Bool
may_navigate s h d f =
    let own : ℕ = frame_of s h d in
    f == own || is_descendant s h f own
    || (not (is_sandboxed s h own) && (f == top_of s h own || option_map_or (λ g. g == f) (opener_of s h own) false))

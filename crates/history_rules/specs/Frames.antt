-- Frames: who made them, their parents, pages, groups and sandboxes. Own rules, after Chromium's FrameTree, its groups
-- (BrowsingInstance) and the sandboxed origin flag of the HTML Standard.
-- Frames 0 to s - 1 are those of the s start pages; the others are numbered in the order of the messages that made them.
-- A frame is made by a document of a frame with a smaller number; that is so in legal histories, and bounds the walks upwards.
use Rattle.std.specs.Prelude.{◌+◌, ◌-◌, ◌==◌, ◌∷◌, [], if◌then◌else◌, Bool, List, None, Option, Some, count_by, drop, false, filter, nat_lt, option_and_then, option_map, slice_get, suc, take, true, unwrap_or, zero, ℕ}
use Rattle.std.specs.List.{last_or, list_any}
use Rattle.std.specs.Option.{option_map_or}
use Rattle.history_entry.specs.declared.body.Body.{Body}
use Rattle.history_entry.specs.declared.body.Body.TheVariants.{AddFrame, Navigate, OpenPage}
use Rattle.history_entry.specs.declared.body.Message.{Message}
use Rattle.history_entry.specs.declared.entry.Entry.{Entry}
use Rattle.script_model.specs.ScriptData.{ScriptData, starts}
use Rattle.history_rules.specs.Entries.{accepted, makes_frame, makes_navigation, opens}

-- how many frames were made; the start frames count from the beginning
abbrev pub frames_made : ScriptData → List Entry → ℕ
frames_made s h = starts s + count_by makes_frame h

-- how many navigations began; the start navigations count from the beginning
abbrev pub navigations_made : ScriptData → List Entry → ℕ
navigations_made s h = starts s + count_by makes_navigation h

-- the frame was made: a start frame when its page is opened
unfoldable pub was_made : ScriptData → List Entry → ℕ → Bool
was_made s h f = if nat_lt f (starts s) then list_any (opens f) h else nat_lt f (frames_made s h)

-- the message that made a frame; none made a start frame
unfoldable pub frame_maker : ScriptData → List Entry → ℕ → Option Message
frame_maker s h f = if nat_lt f (starts s) then None
    else option_and_then accepted (slice_get (filter makes_frame h) (f - starts s))

-- the message that began a navigation; none began that of a start page
unfoldable pub navigation_maker : ScriptData → List Entry → ℕ → Option Message
navigation_maker s h n = if nat_lt n (starts s) then None
    else option_and_then accepted (slice_get (filter makes_navigation h) (n - starts s))

-- the frame that a message navigates, where it makes the frame of this number
abbrev pub body_frame : ℕ → Body → ℕ
body_frame made (Navigate frame url initiator) = frame
body_frame made _ = made

-- the number of frames made before navigation n began
abbrev pub made_before : ScriptData → List Entry → ℕ → ℕ
made_before s h n = starts s + count_by makes_frame (take (n - starts s) (filter makes_navigation h))

-- the frame of a navigation, and so of its document
unfoldable pub frame_of : ScriptData → List Entry → ℕ → ℕ
frame_of s h n = if nat_lt n (starts s) then n
    else option_map_or (λ m. body_frame (made_before s h n) m.body) (navigation_maker s h n) 0

-- a message that adds a child
abbrev pub body_adds : Body → Bool
body_adds (AddFrame src sandbox) = true
body_adds _ = false

-- the document of a message that adds a frame
abbrev pub adder_in : Message → Option ℕ
adder_in m = if body_adds m.body then Some m.document else None

-- a message that opens a page
abbrev pub body_opens : Body → Bool
body_opens (OpenPage url) = true
body_opens _ = false

-- the document of a message that opens a page
abbrev pub opener_in : Message → Option ℕ
opener_in m = if body_opens m.body then Some m.document else None

-- the document that added a frame to its own
abbrev pub adder_of : ScriptData → List Entry → ℕ → Option ℕ
adder_of s h f = option_and_then adder_in (frame_maker s h f)

-- the frame of the document that added it
abbrev pub parent_of : ScriptData → List Entry → ℕ → Option ℕ
parent_of s h f = option_map (frame_of s h) (adder_of s h f)

-- the frame was ever a child of this parent
abbrev pub is_child : ScriptData → List Entry → ℕ → ℕ → Bool
is_child s h f parent = option_map_or (λ g. g == parent) (parent_of s h f) false

-- a frame and then its ancestors, at most m in all
abbrev pub lineage_within : ScriptData → List Entry → ℕ → ℕ → List ℕ
lineage_within s h zero f = []
lineage_within s h (suc m) f = f ∷ option_map_or (λ g. lineage_within s h m g) (parent_of s h f) []

-- a frame and then its ancestors, up to the top frame
unfoldable pub lineage : ScriptData → List Entry → ℕ → List ℕ
lineage s h f = lineage_within s h (suc f) f

-- the frame stands below this ancestor
abbrev pub is_descendant : ScriptData → List Entry → ℕ → ℕ → Bool
is_descendant s h f ancestor = list_any (λ g. g == ancestor) (drop 1 (lineage s h f))

-- the top frame of a frame's page
unfoldable pub top_of : ScriptData → List Entry → ℕ → ℕ
top_of s h f = unwrap_or (last_or None (lineage s h f)) f

-- the opener of a frame's page: the frame of the document that opened it
unfoldable pub opener_of : ScriptData → List Entry → ℕ → Option ℕ
opener_of s h f = option_map (frame_of s h) (option_and_then opener_in (frame_maker s h (top_of s h f)))

-- the frame whose document made a frame, as a child or as a page
abbrev pub maker_frame : ScriptData → List Entry → ℕ → Option ℕ
maker_frame s h f = option_map (λ m. frame_of s h m.document) (frame_maker s h f)

-- a frame, then the one whose document made it, and so on up to a start frame
abbrev pub makers_within : ScriptData → List Entry → ℕ → ℕ → List ℕ
makers_within s h zero f = []
makers_within s h (suc m) f = f ∷ option_map_or (λ g. makers_within s h m g) (maker_frame s h f) []

-- the group of a frame, by the number of its start page
unfoldable pub group_of : ScriptData → List Entry → ℕ → Option ℕ
group_of s h f = if was_made s h f then last_or None (makers_within s h (suc f) f) else None

-- the frame was made, in this group
abbrev pub is_in_group : ScriptData → List Entry → ℕ → ℕ → Bool
is_in_group s h group f = option_map_or (λ g. g == group) (group_of s h f) false

-- two frames that were ever in one group
abbrev pub share_group : ScriptData → List Entry → ℕ → ℕ → Bool
share_group s h f g = option_map_or (λ group. is_in_group s h group g) (group_of s h f) false

-- a message that adds a frame with sandbox
abbrev pub body_sandboxes : Body → Bool
body_sandboxes (AddFrame src sandbox) = sandbox
body_sandboxes _ = false

-- the frame itself was added with sandbox
abbrev pub was_sandboxed : ScriptData → List Entry → ℕ → Bool
was_sandboxed s h f = option_map_or (λ m. body_sandboxes m.body) (frame_maker s h f) false

-- the frame or one of its ancestors was added with sandbox
unfoldable pub is_sandboxed : ScriptData → List Entry → ℕ → Bool
is_sandboxed s h f = list_any (was_sandboxed s h) (lineage s h f)

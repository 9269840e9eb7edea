-- The choice of a process for a frame and a site. Own rules, after what Chromium does for a SiteInstance: the process of its group, a
-- process of its site for subframes and past the soft limit, the spare process, a new one.
use Rattle.std.specs.Prelude.{◌&&◌, ◌||◌, if◌then◌else◌, Bool, List, None, Option, Some, find, is_some, nat_le, nat_lt, option_and_then, ℕ}
use Rattle.std.specs.List.{list_any}
use Rattle.std.specs.Option.{option_or}
use Rattle.page_origin.specs.declared.site.Site.{Site}
use Rattle.history_entry.specs.declared.entry.Entry.{Entry}
use Rattle.history_rules.specs.Orders.{had_order}
use Rattle.script_model.specs.ScriptData.{ScriptData}
use Rattle.script_model.specs.declared.limits.TheConstants.{MAX_LIVE_PROCESSES, MAX_STARTED_PROCESSES}
use Rattle.history_rules.specs.Documents.{documents, is_current_in}
use Rattle.history_rules.specs.Frames.{frame_of, group_of, is_in_group, parent_of}
use Rattle.history_rules.specs.Navigations.{is_waiting}
use Rattle.history_rules.specs.Processes.{is_locked_to, is_warm, live_count, processes, started}

-- a current document of the group is in process p
abbrev pub serves_document : ScriptData → List Entry → ℕ → ℕ → ℕ → Bool
serves_document s h group p d = is_current_in s h p d && is_in_group s h group (frame_of s h d)

-- a waiting order of the group is to process p
abbrev pub serves_order : ScriptData → List Entry → ℕ → ℕ → ℕ → Bool
serves_order s h group p n = is_waiting s h n && had_order h p n && is_in_group s h group (frame_of s h n)

-- process p has a current document or a waiting order of the group
abbrev pub serves_group : ScriptData → List Entry → ℕ → ℕ → Bool
serves_group s h group p = list_any (λ n. serves_document s h group p n || serves_order s h group p n) (documents s h)

-- the least process locked to the site with a current document or a waiting order in the group
unfoldable pub process_in_group : ScriptData → List Entry → ℕ → Site → Option ℕ
process_in_group s h group site = find (λ p. is_locked_to h site p && serves_group s h group p) (processes h)

-- the least live process locked to the site, where the frame has a parent or the soft limit is reached
unfoldable pub process_of_site : ScriptData → List Entry → ℕ → Site → Option ℕ
process_of_site s h f site =
    if is_some (parent_of s h f) || nat_le s.soft_limit (live_count h) then find (is_locked_to h site) (processes h) else None

-- the process that is started and not locked
unfoldable pub warm_process : List Entry → Option ℕ
warm_process h = find (is_warm h) (processes h)

-- one more process may start: fewer than 64 are live, and fewer than 1,024 were started
unfoldable pub may_start : List Entry → Bool
may_start h = nat_lt (live_count h) MAX_LIVE_PROCESSES && nat_lt (started h) MAX_STARTED_PROCESSES

-- the next number, where one more process may start
abbrev pub new_process : List Entry → Option ℕ
new_process h = if may_start h then Some (started h) else None

-- the process for a frame and a site: the first of these that there is
unfoldable pub choice : ScriptData → List Entry → ℕ → Site → Option ℕ
choice s h f site =
    option_or (option_and_then (λ group. process_in_group s h group site) (group_of s h f))
    (option_or (process_of_site s h f site)
    (option_or (warm_process h) (new_process h)))

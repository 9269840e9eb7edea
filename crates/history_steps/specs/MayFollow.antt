-- Which entries may follow a history: for each kind the one entry of an object (a start page, a navigation, a request, a document,
-- an order, a process) that may. Own rules.
use Rattle.std.specs.Prelude.{◌≡◌, ◌&&◌, ◌||◌, if◌then◌else◌, Bool, List, None, Option, Some, count_by, false, filter_map, is_none, nat_lt, not, option_and_then, option_map, slice_get, true, ℕ}
use Rattle.std.specs.List.{list_all, list_any}
use Rattle.page_origin.specs.declared.origin.Origin.{Origin}
use Rattle.page_origin.specs.declared.site.Site.{Site}
use Rattle.site_url.specs.Sites.{site_of_origin}
use Rattle.history_entry.specs.declared.entry.Entry.{Entry}
use Rattle.history_entry.specs.declared.entry.Entry.TheVariants.{Commit, Crash, End, Exit, Head, Hop, Local, NavEnd, Opened, Order, Piece, Said, Warm}
use Rattle.history_entry.specs.declared.entry.HopOf.TheVariants.{Nav, Req}
use Rattle.history_entry.specs.declared.entry.LocalWhat.{LocalWhat}
use Rattle.history_entry.specs.declared.entry.LocalWhat.TheVariants.{Skipped, Took, Waited}
use Rattle.history_entry.specs.declared.rule.Rule.{Rule}
use Rattle.history_entry.specs.declared.rule.Rule.TheVariants.{N2, N3, N5, N6, N7, N8}
use Rattle.history_rules.specs.Orders.{OrderData, order_of, was_answered}
use Rattle.script_model.specs.ResourceData.{fails_at_once}
use Rattle.script_model.specs.ScriptData.{ScriptData, starts}
use Rattle.history_rules.specs.Choice.{choice, may_start, warm_process}
use Rattle.history_rules.specs.Documents.{actions_done, documents, is_current, is_current_in, process_of}
use Rattle.history_rules.specs.Entries.{is_opened, ordered_to}
use Rattle.history_rules.specs.Frames.{frame_of}
use Rattle.history_rules.specs.Inboxes.{inbox}
use Rattle.history_rules.specs.Judgement.{judge, judge_commit}
use Rattle.history_rules.specs.Navigations.{chain_of, commit_origin, is_pending}
use Rattle.history_rules.specs.Processes.{is_locked, started}
use Rattle.history_rules.specs.Redirects.{has_no_content, hop_url, is_redirect, is_spent, is_web, joined_url, last_url, response}
use Rattle.history_rules.specs.Requests.{has_live_request}
use Rattle.service_rule.specs.Services.{ServiceRule}
use Rattle.history_rules.specs.Sights.{next_act}
use Rattle.history_rules.specs.declared.act.Act.{Act}
use Rattle.history_rules.specs.declared.act.Act.TheVariants.{Crash as Crashes, Recv as Receives, Message as Sends, Skip, Wait as Waits}
use Rattle.history_steps.specs.Deliveries.{end_next, head_next, piece_next, request_hop}

-- the next start page is opened
unfoldable pub open_next : ScriptData → List Entry → Option Entry
open_next s h = if nat_lt (count_by is_opened h) (starts s) then Some (Opened (count_by is_opened h)) else None

-- where `spare` is set and no process is warm, the next one is started
unfoldable pub warm_next : ScriptData → List Entry → Option Entry
warm_next s h = if s.spare && is_none (warm_process h) && may_start h then Some (Warm (started h)) else None

-- a pending navigation follows a redirect
unfoldable pub navigation_hop : ScriptData → List Entry → ℕ → Option Entry
navigation_hop s h n = if is_pending s h n && is_web (last_url (chain_of s h n))
    then option_map (Hop (Nav n)) (hop_url s (chain_of s h n)) else None

-- the order with the commit origin, its site and the chosen process, if there is one
unfoldable pub order_with : ScriptData → List Entry → ℕ → Origin → Option Entry
order_with s h n origin =
    let site : Site = site_of_origin s.rules origin in
    option_map (λ p. Order n p site origin (last_url (chain_of s h n))) (choice s h (frame_of s h n) site)

-- the order with the commit origin
unfoldable pub chosen_order : ScriptData → List Entry → ℕ → Option Entry
chosen_order s h n = option_and_then (order_with s h n) (commit_origin s h n)

-- a response that commits: one that does not fail at once, is no redirect and has no status 204 or 205; other classes need none
abbrev pub does_commit : ScriptData → List (List ℕ) → Bool
does_commit s chain = not (is_web (last_url chain))
    || (not (fails_at_once (response s chain)) && not (is_redirect (response s chain)) && not (has_no_content (response s chain)))

-- a pending navigation is ordered
unfoldable pub order_next : ScriptData → List Entry → ℕ → Option Entry
order_next s h n = if is_pending s h n && does_commit s (chain_of s h n) then chosen_order s h n else None

-- a redirect that is not followed: the Location does not join, or joins to another class than Web
abbrev pub redirect_rule : Option (List ℕ) → Option Rule
redirect_rule None = Some N2
redirect_rule (Some url) = if is_web url then None else Some N3

-- why a response commits nothing: the rows on it
abbrev pub response_rule : ScriptData → List (List ℕ) → Option Rule
response_rule s chain =
    if fails_at_once (response s chain) then Some N7
    else if is_redirect (response s chain) then (if is_spent chain then Some N5 else redirect_rule (joined_url s chain))
    else if has_no_content (response s chain) then Some N8
    else None

-- why a navigation ends: the first row that holds, those on its response, then that no process can be had
unfoldable pub end_rule : ScriptData → List Entry → ℕ → Option Rule
end_rule s h n =
    if does_commit s (chain_of s h n) then (if is_none (chosen_order s h n) then Some N6 else None)
    else response_rule s (chain_of s h n)

-- a pending navigation ends without an order
unfoldable pub end_navigation_next : ScriptData → List Entry → ℕ → Option Entry
end_navigation_next s h n = if is_pending s h n then option_map (NavEnd n) (end_rule s h n) else None

-- what the next action of document d says in process p
abbrev pub said_of : ServiceRule → ScriptData → List Entry → ℕ → ℕ → Act → Option Entry
said_of rule s h p d (Sends m) = Some (Said p d (actions_done h d) m (judge rule s h p m))
said_of rule s h p d _ = None

-- the message of a document in its process, which is locked
unfoldable pub said_in : ServiceRule → ScriptData → List Entry → ℕ → ℕ → Option Entry
said_in rule s h d p = if is_locked h p then said_of rule s h p d (next_act s h d) else None

-- a current document sends its next message
unfoldable pub said_next : ServiceRule → ScriptData → List Entry → ℕ → Option Entry
said_next rule s h d = if is_current s h d then option_and_then (said_in rule s h d) (process_of h d) else None

-- the action is a crash
abbrev pub is_crash : Act → Bool
is_crash Crashes = true
is_crash _ = false

-- a process one of whose current documents has `crash` as its next action
unfoldable pub crash_next : ScriptData → List Entry → ℕ → Option Entry
crash_next s h p = if list_any (λ d. is_current_in s h p d && is_crash (next_act s h d)) (documents s h) then Some (Crash p) else None

-- a locked process answers an order that it has not answered by Commit
unfoldable pub commit_by : ScriptData → List Entry → ℕ → OrderData → Option Entry
commit_by s h n order = if is_locked h order.process && not (was_answered h n)
    then Some (Commit order.process n order.origin order.url (judge_commit s h order.process n order.url order.origin)) else None

-- the commit of a navigation's order
unfoldable pub commit_next : ScriptData → List Entry → ℕ → Option Entry
commit_next s h n = option_and_then (commit_by s h n) (order_of h n)

-- an enabled wait, an enabled recv with the first post of the inbox, or a Skip
unfoldable pub local_what : ScriptData → List Entry → ℕ → Act → Option LocalWhat
local_what s h d Waits = if has_live_request s h d then None else Some Waited
local_what s h d Receives = option_map (λ post. Took post.source post.text) (slice_get (inbox s h d) 0)
local_what s h d Skip = Some Skipped
local_what s h d _ = None

-- what a document does by itself in its process, which is locked
unfoldable pub local_in : ScriptData → List Entry → ℕ → ℕ → Option Entry
local_in s h d p = if is_locked h p then option_map (Local p d (actions_done h d)) (local_what s h d (next_act s h d)) else None

-- a current document does its next action by itself
unfoldable pub local_next : ScriptData → List Entry → ℕ → Option Entry
local_next s h d = if is_current s h d then option_and_then (local_in s h d) (process_of h d) else None

-- a locked process without a current document that has answered each of its orders
unfoldable pub exit_next : ScriptData → List Entry → ℕ → Option Entry
exit_next s h p =
    if is_locked h p && not (list_any (is_current_in s h p) (documents s h))
    && list_all (was_answered h) (filter_map (ordered_to p) h)
    then Some (Exit p) else None

-- the entry of the same object that may follow
unfoldable pub next_of : ServiceRule → ScriptData → List Entry → Entry → Option Entry
next_of rule s h (Opened k) = open_next s h
next_of rule s h (Warm p) = warm_next s h
next_of rule s h (Hop (Nav n) url) = navigation_hop s h n
next_of rule s h (Hop (Req r) url) = request_hop s h r
next_of rule s h (Order n p site origin url) = order_next s h n
next_of rule s h (NavEnd n why) = end_navigation_next s h n
next_of rule s h (Said p d k message reply) = said_next rule s h d
next_of rule s h (Crash p) = crash_next s h p
next_of rule s h (Commit p n origin url reply) = commit_next s h n
next_of rule s h (Local p d k what) = local_next s h d
next_of rule s h (Head r why) = head_next s h r
next_of rule s h (Piece r i bytes) = piece_next s h r
next_of rule s h (End r how) = end_next s h r
next_of rule s h (Exit p) = exit_next s h p

-- the entry may follow the history
abbrev pub MayFollow : ServiceRule → ScriptData → List Entry → Entry → Type 0
MayFollow rule s h e = next_of rule s h e ≡ Some e

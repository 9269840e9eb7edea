-- What may follow of the object of a task: of a job, of a document, and of the load of a request. Own rules.
use Rattle.std.specs.Prelude.{◌≡◌, ◌==◌, ◌&&◌, ◌||◌, if◌then◌else◌, Bool, List, None, Option, Some, false, is_some, not, option_map, true, ⊤, ℕ}
use Rattle.std.specs.Option.{option_or}
use Rattle.history_entry.specs.declared.entry.Entry.{Entry}
use Rattle.history_entry.specs.declared.entry.Entry.TheVariants.{Commit, Crash, End, Exit, Head, Hop, Local, NavEnd, Opened, Order, Piece, Said, Warm}
use Rattle.history_entry.specs.declared.entry.HopOf.TheVariants.{Nav, Req}
use Rattle.script_model.specs.ResourceData.{fails_at_once}
use Rattle.script_model.specs.ScriptData.{ScriptData}
use Rattle.history_rules.specs.Documents.{is_current, is_current_in, process_of}
use Rattle.history_rules.specs.Entries.{opens}
use Rattle.history_rules.specs.Redirects.{is_redirect, response}
use Rattle.history_rules.specs.Requests.{request_chain}
use Rattle.history_rules.specs.Sights.{next_act}
use Rattle.history_steps.specs.Deliveries.{end_next, head_next, piece_next, request_hop}
use Rattle.history_steps.specs.MayFollow.{commit_next, end_navigation_next, exit_next, is_crash, local_next, navigation_hop, open_next, order_next, warm_next}
use Rattle.history.specs.Sayings.{saying_next}
use Rattle.work_queue.specs.declared.task.BrowserJob.{BrowserJob}
use Rattle.work_queue.specs.declared.task.BrowserJob.TheVariants as jobs
use Rattle.work_queue.specs.declared.task.TaskKey.{TaskKey}
use Rattle.work_queue.specs.declared.task.TaskKey.TheVariants as keys

-- the response of a request's last URL fails before its first byte, or redirects: then no load takes it, and it ends at once
unfoldable pub is_taken_at_once : ScriptData → List Entry → ℕ → Bool
is_taken_at_once s h r = fails_at_once (response s (request_chain h r)) || is_redirect (response s (request_chain h r))

-- ---- Which entries are those of an object

-- of a job: the opening of its page, any warm process, the redirect, order or end of its navigation, the commit of its order, the
-- redirect of its request or the end of one that is taken at once, the exit of its process
abbrev pub IsOfJob : ScriptData → List Entry → BrowserJob → Entry → Type 0
IsOfJob s h (jobs.Open k) (Opened page) = page ≡ k
IsOfJob s h jobs.Warm (Warm p) = ⊤
IsOfJob s h (jobs.Nav n) (Hop (Nav m) url) = m ≡ n
IsOfJob s h (jobs.Nav n) (Order m p site origin url) = m ≡ n
IsOfJob s h (jobs.Nav n) (NavEnd m why) = m ≡ n
IsOfJob s h (jobs.Commit n) (Commit p m origin url reply) = m ≡ n
IsOfJob s h (jobs.Request r) (Hop (Req q) url) = q ≡ r
IsOfJob s h (jobs.Request r) (End q how) = (q ≡ r) × (is_taken_at_once s h r ≡ true)
IsOfJob s h (jobs.Exit p) (Exit q) = q ≡ p
IsOfJob s h _ _ = ⊥

-- the document is current in the process, and its next action is a crash
abbrev pub Crashes : ScriptData → List Entry → ℕ → ℕ → Type 0
Crashes s h d p = (is_current_in s h p d ≡ true) × (is_crash (next_act s h d) ≡ true)

-- what a request is delivered: its head, its pieces and its end
abbrev pub IsDelivery : ℕ → Entry → Type 0
IsDelivery r (Head q why) = q ≡ r
IsDelivery r (Piece q i bytes) = q ≡ r
IsDelivery r (End q how) = q ≡ r
IsDelivery r _ = ⊥

-- of a task: those of its job, what its document says or does by itself and the crash of its process, or what its request is
-- delivered that is not taken at once
abbrev pub IsOfKey : ScriptData → List Entry → TaskKey → Entry → Type 0
IsOfKey s h (keys.Browser job) e = IsOfJob s h job e
IsOfKey s h (keys.Act d) (Said p document k message reply) = document ≡ d
IsOfKey s h (keys.Act d) (Local p document k what) = document ≡ d
IsOfKey s h (keys.Act d) (Crash p) = Crashes s h d p
IsOfKey s h (keys.Act d) _ = ⊥
IsOfKey s h (keys.Load r) e = IsDelivery r e × (is_taken_at_once s h r ≡ false)

-- ---- The one that may follow

-- the opening of page k
abbrev pub opening_of : ℕ → Option Entry → Option Entry
opening_of k None = None
opening_of k (Some e) = if opens k e then Some e else None

-- of a navigation
unfoldable pub navigation_next : ScriptData → List Entry → ℕ → Option Entry
navigation_next s h n = option_or (navigation_hop s h n) (option_or (order_next s h n) (end_navigation_next s h n))

-- the end of a request that is taken at once
unfoldable pub end_at_once : ScriptData → List Entry → ℕ → Option Entry
end_at_once s h r = if is_taken_at_once s h r then end_next s h r else None

-- of a request, but what a load delivers
unfoldable pub request_next : ScriptData → List Entry → ℕ → Option Entry
request_next s h r = option_or (request_hop s h r) (end_at_once s h r)

-- of a job
abbrev pub job_next : ScriptData → List Entry → BrowserJob → Option Entry
job_next s h (jobs.Open k) = opening_of k (open_next s h)
job_next s h jobs.Warm = warm_next s h
job_next s h (jobs.Nav n) = navigation_next s h n
job_next s h (jobs.Commit n) = commit_next s h n
job_next s h (jobs.Request r) = request_next s h r
job_next s h (jobs.Exit p) = exit_next s h p

-- the crash of the process of a document
unfoldable pub document_crash : ScriptData → List Entry → ℕ → Option Entry
document_crash s h d = if is_current s h d && is_crash (next_act s h d) then option_map Crash (process_of h d) else None

-- what a request is delivered next
unfoldable pub delivery_next : ScriptData → List Entry → ℕ → Option Entry
delivery_next s h r = option_or (head_next s h r) (option_or (piece_next s h r) (end_next s h r))

-- something may follow of the object
unfoldable pub has_next : ScriptData → List Entry → TaskKey → Bool
has_next s h (keys.Browser job) = is_some (job_next s h job)
has_next s h (keys.Act d) = is_some (saying_next s h d) || is_some (local_next s h d) || is_some (document_crash s h d)
has_next s h (keys.Load r) = not (is_taken_at_once s h r) && is_some (delivery_next s h r)

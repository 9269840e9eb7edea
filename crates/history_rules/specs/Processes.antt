-- The standing of processes in a history: not started, warm, locked to a site, or dead. Own rules, after the process locks of
-- Chromium's ChildProcessSecurityPolicyImpl and its spare RenderProcessHost. Processes are numbered from 0 in the order of their starts.
use Rattle.std.specs.Prelude.{◌+◌, ◌==◌, ◌&&◌, ◌||◌, ◌∷◌, [], if◌then◌else◌, Bool, List, None, Option, Some, count_by, false, filter, filter_map, fold, is_some, length, max, not, take_while, ℕ}
use Rattle.std.specs.List.{list_any, range_with_len}
use Rattle.std.specs.Option.{option_map_or}
use Rattle.page_origin.specs.Origins.{equal_sites}
use Rattle.page_origin.specs.declared.site.Site.{Site}
use Rattle.history_entry.specs.declared.entry.Entry.{Entry}
use Rattle.history_entry.specs.declared.entry.Entry.TheVariants.{Order}
use Rattle.history_entry.specs.declared.entry.Entry.TheVariants as entries
use Rattle.history_rules.specs.Orders.{lock_in}
use Rattle.history_rules.specs.Entries.{ends_process, last_match}

-- what a process is: not started, started and not locked, locked to a site, or dead
pub data Stage : Type 0 where
  Absent : Stage
  Warm : Stage
  Locked : Site → Stage
  Dead : Stage

-- an entry made the process Dead
unfoldable pub is_dead : List Entry → ℕ → Bool
is_dead h p = list_any (ends_process p) h

-- process p is started without a lock
abbrev pub warms : ℕ → Entry → Bool
warms p (entries.Warm q) = q == p
warms p _ = false

-- the site to which a process is locked: that of its orders, which are all of one site; a dead process has none
unfoldable pub lock_of : List Entry → ℕ → Option Site
lock_of h p = if is_dead h p then None else last_match (lock_in p) h

-- locked to some site
unfoldable pub is_locked : List Entry → ℕ → Bool
is_locked h p = is_some (lock_of h p)

-- locked to this site
unfoldable pub is_locked_to : List Entry → Site → ℕ → Bool
is_locked_to h site p = option_map_or (equal_sites site) (lock_of h p) false

-- started and not locked
unfoldable pub is_warm : List Entry → ℕ → Bool
is_warm h p = list_any (warms p) h && not (is_dead h p) && not (is_locked h p)

-- warm or locked
unfoldable pub is_live : List Entry → ℕ → Bool
is_live h p = is_warm h p || is_locked h p

-- locked to this site, or not started
abbrev pub stage_of_lock : Option Site → Stage
stage_of_lock None = Absent
stage_of_lock (Some site) = Locked site

-- the standing of a process
unfoldable pub standing : List Entry → ℕ → Stage
standing h p =
    if is_dead h p then Dead
    else if is_warm h p then Warm
    else stage_of_lock (lock_of h p)

-- one more than the process that an entry warms or orders
abbrev pub started_by : Entry → Option ℕ
started_by (entries.Warm p) = Some (p + 1)
started_by (Order n p site origin url) = Some (p + 1)
started_by _ = None

-- how many processes were started
unfoldable pub started : List Entry → ℕ
started h = fold max 0 (filter_map started_by h)

-- the started processes
abbrev pub processes : List Entry → List ℕ
processes h = range_with_len 0 (started h)

-- how many processes are live
unfoldable pub live_count : List Entry → ℕ
live_count h = count_by (is_live h) (processes h)

-- the site of an order
abbrev pub site_in : Entry → Option Site
site_in (Order n p site origin url) = Some site
site_in _ = None

-- each site once, where it stands first
abbrev pub distinct_sites : List Site → List Site
distinct_sites [] = []
distinct_sites (site ∷ later) = site ∷ filter (λ other. not (equal_sites other site)) (distinct_sites later)

-- the number of a site: how many other sites stand in Order entries before its own first one
unfoldable pub site_number : List Entry → Site → ℕ
site_number h site = length (distinct_sites (take_while (λ other. not (equal_sites other site)) (filter_map site_in h)))

-- Sites of orders, and what the last entry of a history changes in the table.
use Rattle.std.specs.Prelude.{◌≡◌, ◌++◌, ◌∷◌, [], if◌then◌else◌, Bool, List, None, Option, Some, false, filter_map, length, not, ℕ}
use Rattle.std.specs.List.{list_any}
use Rattle.std.specs.Option.{option_map_or}
use Rattle.page_origin.specs.Origins.{equal_sites}
use Rattle.page_origin.specs.declared.site.Site.{Site}
use Rattle.history_entry.specs.declared.entry.Entry.{Entry}
use Rattle.history_entry.specs.declared.entry.Entry.TheVariants.{Commit, Crash, Exit, Order, Said, Warm}
use Rattle.history_rules.specs.Entries.{kills}
use Rattle.history_rules.specs.Processes.{distinct_sites, site_in}
use Rattle.policy_table.specs.Changes.{Changes}
use Rattle.policy_table.specs.declared.standing.Standing.{Standing}
use Rattle.process_standings.specs.Standings.{table_standing}

-- an order of this site
abbrev pub is_order_of : Site → Entry → Bool
is_order_of site e = option_map_or (equal_sites site) (site_in e) false

-- an order of a site that none of these orders is of
abbrev pub is_new_site : List Entry → Entry → Bool
is_new_site h e = option_map_or (λ site. not (list_any (is_order_of site) h)) (site_in e) false

-- how many sites the orders are of
abbrev pub site_count : List Entry → ℕ
site_count h = length (distinct_sites (filter_map site_in h))

-- the process whose standing an entry may change: one that it starts, orders, kills, or that crashes or exits
abbrev pub process_about : Entry → Option ℕ
process_about (Warm p) = Some p
process_about (Order n p site origin url) = Some p
process_about (Said p d k message reply) = if kills reply then Some p else None
process_about (Crash p) = Some p
process_about (Commit p n origin url reply) = if kills reply then Some p else None
process_about (Exit p) = Some p
process_about _ = None

-- the last entry of a history makes this change in the table
abbrev pub LastChanges : List Entry → Option (ℕ × Standing) → Type 0
LastChanges h change =
    (before : List Entry) (e : Entry) → h ≡ before ++ e ∷ [] → Changes (table_standing before) (table_standing h) change

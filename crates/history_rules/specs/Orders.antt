-- Orders of navigations to processes, and the answers to them. Own rules, after the commit of a navigation in Chromium's
-- NavigationRequest and RenderFrameHostImpl.
use Rattle.std.specs.List.{list_any}
use Rattle.std.specs.Prelude.{◌==◌, ◌&&◌, if◌then◌else◌, Bool, List, None, Option, Some, false, is_some, ℕ}
use Rattle.page_origin.specs.declared.origin.Origin.{Origin}
use Rattle.page_origin.specs.declared.site.Site.{Site}
use Rattle.history_entry.specs.declared.entry.Entry.{Entry}
use Rattle.history_entry.specs.declared.entry.Entry.TheVariants.{Commit, Order}
use Rattle.history_rules.specs.Entries.{last_match}

-- what an order says
pub record OrderData : Type 0 where
  pub process : ℕ
  pub site : Site
  pub origin : Origin
  pub url : List ℕ

-- the order of navigation n
abbrev pub order_in : ℕ → Entry → Option OrderData
order_in n (Order m p site origin url) =
    if m == n then Some (record { process = p; site = site; origin = origin; url = url }) else None
order_in n _ = None

-- navigation n is ordered to process p
abbrev pub orders_to : ℕ → ℕ → Entry → Bool
orders_to p n (Order m q site origin url) = q == p && m == n
orders_to p n _ = false

-- a Commit entry of navigation n, whatever its reply
abbrev pub answers : ℕ → Entry → Bool
answers n (Commit p m origin url reply) = m == n
answers n _ = false

-- the site of an order to process p
abbrev pub lock_in : ℕ → Entry → Option Site
lock_in p (Order n q site origin url) = if q == p then Some site else None
lock_in p _ = None

-- the order of a navigation
unfoldable pub order_of : List Entry → ℕ → Option OrderData
order_of h n = last_match (order_in n) h

-- it has an order
unfoldable pub was_ordered : List Entry → ℕ → Bool
was_ordered h n = is_some (order_of h n)

-- it was ever ordered to process p
unfoldable pub had_order : List Entry → ℕ → ℕ → Bool
had_order h p n = list_any (orders_to p n) h

-- its order was answered
unfoldable pub was_answered : List Entry → ℕ → Bool
was_answered h n = list_any (answers n) h

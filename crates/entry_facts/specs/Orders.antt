-- What an order says, seen through the references to its entry.
use Rattle.history_rules.specs.Orders.{OrderData}
use Rattle.entry_facts.specs.declared.ordered.Ordered.{Ordered}

-- the order that the references show
abbrev pub order_view : Ordered → OrderData
order_view o = record { process = o.process; site = o.site.now; origin = o.origin.now; url = o.url.now }

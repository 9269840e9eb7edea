use Rattle.std.proofs.Common.{◌∙◌}
use Rattle.history_rules.specs.Orders.{order_of}
use Rattle.message_filter.proofs.Compared.{compared}
use Rattle.message_filter.proofs.commit.compare_order.Goals as goal

pub returns : goal.returns
returns g c = c.compare.ensures ∙ compared (order_of (g.F.Facts.entries c.args.facts.now) c.args.nav) c.args.url.now c.args.origin.now c.order_url.result.now c.order_origin.result.now
    c.order_url.ensures c.order_origin.ensures

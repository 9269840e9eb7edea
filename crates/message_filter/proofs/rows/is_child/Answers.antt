use Rattle.std.proofs.Common.{◌∙◌, sym}
use Rattle.message_filter.proofs.Made.{child_made}
use Rattle.message_filter.proofs.rows.is_child.Goals as goal

pub returns-clause-made : goal.returns-clause-made
returns-clause-made g c = λ child. child_made (g.F.Facts.script c.args.facts.now) (g.F.Facts.entries c.args.facts.now) c.args.frame c.args.parent (sym c.is_child.ensures ∙ child)

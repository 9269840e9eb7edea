use Rattle.std.proofs.Common.{◌∙◌, sym}
use Rattle.history_rules.specs.Frames.{frame_of}
use Rattle.message_filter.proofs.Made.{group_made}
use Rattle.message_filter.proofs.rows.in_group.Goals as goal

pub returns-clause-made : goal.returns-clause-made
returns-clause-made g c = λ shares. group_made (g.F.Facts.script c.args.facts.now) (g.F.Facts.entries c.args.facts.now)
    (frame_of (g.F.Facts.script c.args.facts.now) (g.F.Facts.entries c.args.facts.now) c.args.document) c.args.frame (sym c.in_group.ensures ∙ shares)

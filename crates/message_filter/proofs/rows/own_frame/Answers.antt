use Rattle.std.proofs.Common.{◌∙◌, ap}
use Rattle.history_rules.specs.Frames.{was_made}
use Rattle.message_filter.proofs.Made.{own_made}
use Rattle.message_filter.proofs.rows.own_frame.Goals as goal

pub returns-clause-made : goal.returns-clause-made
returns-clause-made g c =
    ap (was_made (g.F.Facts.script c.args.facts.now) (g.F.Facts.entries c.args.facts.now)) c.frame_of.ensures
    ∙ own_made (g.F.Facts.script c.args.facts.now) (g.F.Facts.entries c.args.facts.now) c.args.document c.requires

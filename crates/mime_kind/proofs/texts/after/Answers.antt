use Rattle.std.proofs.Common.{◌∙◌}
use Rattle.mime_kind.proofs.FirstMark.{after_first, after_none, rest_at}
use Rattle.mime_kind.proofs.texts.after.Goals as goal

pub returns-in-Some : goal.returns-in-Some
returns-in-Some c =
    let found = c.in-Some.ensures in
    rest_at c.args.text.now c.in-Some.end ∙ after_first c.args.mark c.args.text.now c.in-Some.end found.0.high found.0.before found.1

pub returns-in-None : goal.returns-in-None
returns-in-None c = after_none _ _ c.in-None.ensures

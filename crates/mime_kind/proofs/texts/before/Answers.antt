use Rattle.mime_kind.proofs.FirstMark.{before_first, before_none}
use Rattle.mime_kind.proofs.texts.before.Goals as goal

pub returns-in-Some : goal.returns-in-Some
returns-in-Some c =
    let found = c.in-Some.ensures in
    before_first _ _ _ found.0.high found.0.before found.1

pub returns-in-None : goal.returns-in-None
returns-in-None c = before_none _ _ c.in-None.ensures

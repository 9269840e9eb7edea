use Rattle.browser_cli.proofs.Frames.{no_frame}
use Rattle.browser_cli.proofs.framing.framed.Goals as goal

pub returns-clause-none : goal.returns-clause-none
returns-clause-none c none = no_frame _ _ c.in_ok-strip_prefix.ensures.cases.1 (c.cut.ensures.none none)

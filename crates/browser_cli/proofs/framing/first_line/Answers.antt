use Rattle.std.proofs.Common.{arith}
use Rattle.browser_cli.proofs.Frames.{cut_rest, no_feeds, no_feeds_at_all}
use Rattle.browser_cli.proofs.framing.first_line.Goals as goal

pub returns-in_err-end-clause-none : goal.returns-in_err-end-clause-none
returns-in_err-end-clause-none c none = no_feeds_at_all _ c.in_err-end.ensures

pub returns-clause-some : goal.returns-clause-some
returns-clause-some c =
    let found = c.in_ok-end.ensures in
    (cut_rest _ _ found.0.high found.1, no_feeds _ _ (omega arith) found.0.before)

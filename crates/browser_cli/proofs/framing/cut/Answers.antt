use Rattle.std.proofs.Common.{sym}
use Rattle.browser_cli.proofs.Frames.{no_length, none_case, too_long, too_short}
use Rattle.browser_cli.proofs.framing.cut.Goals as goal

pub returns-in_err-length-clause-none : goal.returns-in_err-length-clause-none
returns-in_err-length-clause-none c none =
    let line = c.in_ok-number.ensures.some in
    no_length _ _ _ line.0 line.1 (sym c.in_err-length.ensures)

pub returns-clause-none : goal.returns-clause-none
returns-clause-none c none =
    let line = c.in_ok-number.ensures.some in
    too_short _ _ _ _ line.0 line.1 (sym c.in_ok-length.ensures) (none_case _ none c.split_at_checked.ensures.cases)

pub returns-then-length-gt-SCRIPT_LIMIT-clause-none : goal.returns-then-length-gt-SCRIPT_LIMIT-clause-none
returns-then-length-gt-SCRIPT_LIMIT-clause-none c none =
    let line = c.in_ok-number.ensures.some in
    too_long _ _ _ _ line.0 line.1 (sym c.in_ok-length.ensures) c.if-length-gt-SCRIPT_LIMIT.true

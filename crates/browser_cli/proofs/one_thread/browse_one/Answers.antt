use Rattle.std.proofs.Common.{◌∙◌, Err, ap}
use Rattle.browser_cli.proofs.Inputs.{too_long_named}
use Rattle.browser_cli.proofs.one_thread.browse_one.Goals as goal

pub returns-in-Err-TooLarge-clause-complete : goal.returns-in-Err-TooLarge-clause-complete
returns-in-Err-TooLarge-clause-complete g c command input named all calm still memory =
    let stopped = c.in-Err-TooLarge.is ∙ ap Err c.in-Err-TooLarge.field-0-is in
    too_long_named _ command _ input _ _ _ c.in-Some.ensures.named named stopped
    (λ nothing. (c.read_input.ensures.unread nothing).1) (c.read_input.ensures.large stopped) all

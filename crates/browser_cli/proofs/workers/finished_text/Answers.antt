use Rattle.std.proofs.lemmas.Result.{IfOk-weaker}
use Rattle.service_rule.specs.Store.{store_rule}
use Rattle.browser_cli.proofs.Written.{one_text}
use Rattle.browser_cli.proofs.workers.finished_text.Goals as goal

pub returns : goal.returns
returns c = IfOk-weaker c.text_of.result _ _
    (λ text is. one_text c.args.script.now c.args.history.now text.items (c.histories_have_one_spelling.ensures store_rule c.args.script.now)
    c.script_is_within_limits.ensures c.requires.legal c.requires.finished is)
    c.text_of.ensures

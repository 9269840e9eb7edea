use Rattle.std.proofs.Common.{◌≡◌, ◌∙◌, inl, sym}
use Rattle.browser_cli.proofs.answers.audit_input.Goals as goal

pub returns-in-None-clause-refused : goal.returns-in-None-clause-refused
returns-in-None-clause-refused c refused is =
    let same : c.whole.result ≡ refused = cc in
    inl (c.framed.ensures.none c.in-None.is, sym same ∙ c.whole.ensures)

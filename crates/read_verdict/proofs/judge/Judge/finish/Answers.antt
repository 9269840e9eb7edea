use Rattle.std.proofs.Common.{true, sym, ◌∙◌}
use Rattle.script_model.specs.Verdicts.{sniff_kind}
use Rattle.read_verdict.proofs.Judging.{HasJudged-ended, HasJudged-read, settled_by_answer}
use Rattle.read_verdict.proofs.judge.Judge.finish.Goals as goal

pub returns-in-Settled-clause-judged : goal.returns-in-Settled-clause-judged
returns-in-Settled-clause-judged c = λ case bytes judged.
    HasJudged-ended c.args.self.now case bytes c.in-Settled.field-0 c.in-Settled.is judged

pub returns-in-Settled-clause-ruling : goal.returns-in-Settled-clause-ruling
returns-in-Settled-clause-ruling c = λ case bytes judged. (returns-in-Settled-clause-judged c case bytes judged).ruling

pub returns-in-More-clause-judged : goal.returns-in-More-clause-judged
returns-in-More-clause-judged c = λ case bytes judged.
    let ruled = c.rule_by.ensures in
    HasJudged-read c.args.self.now c.rule_by.new.self case bytes bytes true c.finish-answer.result c.in-More.is judged
    (c.finish-answer.ensures.answer (sniff_kind c.args.self.now.kind) bytes (judged.sniffer c.in-More.is))
    ruled.request ruled.kind (ruled.kept ∙ ruled.told)
    (λ more. absurd (settled_by_answer c.args.self.now.kind c.finish-answer.result c.finish-answer.ensures.settled (sym (ruled.kept ∙ ruled.told) ∙ more)))

pub returns-in-More-clause-ruling : goal.returns-in-More-clause-ruling
returns-in-More-clause-ruling c = λ case bytes judged.
    sym c.rule_by.ensures.kept ∙ (returns-in-More-clause-judged c case bytes judged).ruling

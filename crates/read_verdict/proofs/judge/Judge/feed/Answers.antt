use Rattle.std.proofs.Common.{false, ◌++◌, sym, ◌∙◌}
use Rattle.script_model.specs.Verdicts.{sniff_kind}
use Rattle.read_verdict.proofs.Judging.{HasJudged-settled, HasJudged-read}
use Rattle.read_verdict.proofs.judge.Judge.feed.Goals as goal

pub returns-in-Settled-clause-judged : goal.returns-in-Settled-clause-judged
returns-in-Settled-clause-judged c = λ case bytes judged.
    HasJudged-settled c.args.self.now case bytes c.args.piece.now false c.in-Settled.field-0 c.in-Settled.is judged

pub returns-in-Settled-clause-ruling : goal.returns-in-Settled-clause-ruling
returns-in-Settled-clause-ruling c = λ case bytes judged. (returns-in-Settled-clause-judged c case bytes judged).ruling

pub returns-in-More-clause-judged : goal.returns-in-More-clause-judged
returns-in-More-clause-judged c = λ case bytes judged.
    let kind = sniff_kind c.args.self.now.kind in
    let read = judged.sniffer c.in-More.is in
    let ruled = c.rule_by.ensures in
    HasJudged-read c.args.self.now c.rule_by.new.self case bytes (bytes ++ c.args.piece.now) false c.feed-answer.result c.in-More.is judged
    (c.feed-answer.ensures.answer kind bytes read) ruled.request ruled.kind (ruled.kept ∙ ruled.told)
    (λ more. rw ruled.sniffer (c.feed-answer.ensures.read kind bytes read))

pub returns-in-More-clause-ruling : goal.returns-in-More-clause-ruling
returns-in-More-clause-ruling c = λ case bytes judged.
    sym c.rule_by.ensures.kept ∙ (returns-in-More-clause-judged c case bytes judged).ruling

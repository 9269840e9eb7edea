use Rattle.std.proofs.Common.{sym}
use Rattle.public_suffix.specs.RuleLines.{is_passed_over, word_of}
use Rattle.public_suffix.proofs.Words.{word_is_utf8, word_by}
use Rattle.public_suffix.proofs.word.word.Goals as goal

pub returns : goal.returns
returns c =
    let text = word_is_utf8 c.args.line.now (sym c.if-is_passed_over.ensures) in
    rw c.ok.ensures.value (word_by (word_of c.args.line.now) (is_passed_over c.args.line.now) c.from_utf8.result _ (sym c.if-is_passed_over.ensures) text (rw c.word_of.ensures at c.from_utf8.ensures.cases))

use Rattle.audit_run.proofs.Words.{begins_with_word}
use Rattle.audit_run.proofs.laws.lines_begin_with_words.Goals as goal

pub returns : goal.returns
returns c = begins_with_word

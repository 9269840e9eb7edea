use Rattle.history_text.proofs.Lines.{bad_answered, text_answered}
use Rattle.history_text.proofs.reading.read_text.Goals as goal

pub returns-clause-back : goal.returns-clause-back
returns-clause-back c = text_answered c.args.bytes.now c.read_by_policy.result c.read_by_policy.ensures.read c.read_by_policy.ensures.bad

pub returns-clause-first : goal.returns-clause-first
returns-clause-first c = bad_answered c.args.bytes.now c.read_by_policy.result c.read_by_policy.ensures.read c.read_by_policy.ensures.bad

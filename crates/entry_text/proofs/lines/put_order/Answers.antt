use Rattle.std.proofs.Common.{rules, append_assoc}
use Rattle.std.proofs.lemmas.Result.{IfOk-equal}
use Rattle.entry_text.specs.Lines as lines
use Rattle.entry_text.proofs.lines.put_order.Goals as goal

pub returns-clause-text : goal.returns-clause-text
unfolding lines.entry_text
returns-clause-text c = search (rules, IfOk-equal, append_assoc)

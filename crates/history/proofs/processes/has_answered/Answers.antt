use Rattle.std.proofs.Common.{◌∙◌}
use Rattle.history_rules.specs.Orders.{was_answered}
use Rattle.history_rules.specs.Entries.{ordered_to}
use Rattle.history.proofs.Answered.{all_given}
use Rattle.history.proofs.processes.has_answered.Goals as goal

pub returns : goal.returns
returns c = c.are_settled.ensures ∙ all_given (was_answered c.args.entries.now) (ordered_to c.args.process) c.args.entries.now

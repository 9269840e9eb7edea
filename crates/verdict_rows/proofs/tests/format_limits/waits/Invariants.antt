use Rattle.std.proofs.Common.{All}
use Rattle.script_model.specs.ActionLimits.{IsAction}
use Rattle.verdict_rows.proofs.tests.format_limits.waits.Given as goal

abbrev pub invariant-loop-turn : goal.invariant-loop-turn
invariant-loop-turn l = All IsAction l.actions.items

use Rattle.std.proofs.Common.{◌≡◌}
use Rattle.policy_table.proofs.tests.mark_often.Given as goal

-- the pass stays the desk's, with its weight
abbrev pub invariant-loop : goal.invariant-loop
invariant-loop g l = (l.pass.desk ≡ l.fn.pass.desk) × (l.pass.weight ≡ l.fn.pass.weight)

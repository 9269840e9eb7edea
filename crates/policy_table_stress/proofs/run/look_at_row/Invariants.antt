use Rattle.std.proofs.Common.{◌≡◌}
use Rattle.policy_table_stress.proofs.run.look_at_row.Given as goal

-- the pass stays the desk's, with its weight
abbrev pub invariant-loop : goal.invariant-loop
invariant-loop l = (l.pass.desk ≡ l.initial.pass.desk) × (l.pass.weight ≡ l.initial.pass.weight)

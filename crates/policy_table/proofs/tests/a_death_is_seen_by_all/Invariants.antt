use Rattle.std.proofs.Common.{◌≡◌}
use Rattle.policy_table.proofs.tests.a_death_is_seen_by_all.Given as goal

abbrev pub invariant-loop-standing : goal.invariant-loop-standing
invariant-loop-standing g l = (l.pass.desk ≡ l.initial.pass.desk) × (l.pass.weight ≡ l.initial.pass.weight)

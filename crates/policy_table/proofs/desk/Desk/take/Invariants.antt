use Rattle.std.proofs.Common.{◌≡◌}
use Rattle.policy_table.proofs.desk.Desk.take.Given as goal

-- a miss changes nothing
abbrev pub invariant-loop : goal.invariant-loop
invariant-loop g l = (l.seat.table_id ≡ l.initial.seat.table_id) × (l.seat.me ≡ l.initial.seat.me)

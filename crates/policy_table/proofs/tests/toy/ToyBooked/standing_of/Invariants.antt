use Rattle.std.proofs.Common.{◌≡◌, ◌==◌, drop, if◌then◌else◌}
use Rattle.std.specs.Prelude.{fold}
use Rattle.policy_table.specs.declared.standing.Standing.{Standing}
use Rattle.policy_table.specs.declared.standing.Standing.TheVariants.{Absent}
use Rattle.policy_table.specs.declared.tests.toy.Mark.{Mark}
use Rattle.policy_table.proofs.tests.toy.ToyBooked.standing_of.Given as goal

-- the marks that are left lead from the standing so far to the standing in all
abbrev pub invariant-loop-mark : goal.invariant-loop-mark
invariant-loop-mark g l =
    fold (λ (standing : Standing) (mark : Mark). if mark.process == l.process then mark.standing else standing) Absent l.mark-items
    ≡ fold (λ (standing : Standing) (mark : Mark). if mark.process == l.process then mark.standing else standing) l.standing (drop l.mark-index l.mark-items)

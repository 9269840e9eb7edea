use Rattle.std.proofs.Common.{sym, subst, None, Some, ◌≡◌}
use Rattle.process_standings.proofs.Changing.{changes_none, changes_nothing, changes_one}
use Rattle.process_standings.specs.Changing.{LastChanges, process_about}
use Rattle.process_standings.proofs.changes.last_change.Goals as goal

pub returns-in_err-process-clause-change : goal.returns-in_err-process-clause-change
returns-in_err-process-clause-change c =
    let about : process_about c.in_ok-last.last.now ≡ None = cc in
    λ rule s legal. subst (λ change. LastChanges c.args.entries.now change) (sym c.from_residual-in_err-process.ensures)
    (changes_none c.args.entries.now c.in_ok-last.before.now c.in_ok-last.last.now c.in_ok-last.ensures.cases.0 about)

pub returns-in_err-now-clause-change : goal.returns-in_err-now-clause-change
returns-in_err-now-clause-change c =
    let about : process_about c.in_ok-last.last.now ≡ Some c.in_ok-process.process = cc in
    λ rule s legal. subst (λ change. LastChanges c.args.entries.now change) (sym c.from_residual-in_err-now.ensures)
    (changes_nothing c.args.entries.now c.in_ok-last.before.now c.in_ok-last.last.now c.in_ok-last.ensures.cases.0 c.in_ok-process.process about c.in_err-now.ensures)

pub returns-clause-change : goal.returns-clause-change
returns-clause-change c =
    let about : process_about c.in_ok-last.last.now ≡ Some c.in_ok-process.process = cc in
    λ rule s legal. changes_one c.args.entries.now c.in_ok-last.before.now c.in_ok-last.last.now c.in_ok-last.ensures.cases.0
    rule s legal c.in_ok-process.process c.in_ok-now.now about c.in_ok-now.ensures.0 c.in_ok-now.ensures.1

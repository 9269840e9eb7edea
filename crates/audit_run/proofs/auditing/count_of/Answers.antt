use Rattle.std.proofs.Common.{◌≡◌, ◌<◌, List, ap, arith, length}
use Rattle.history_entry.specs.declared.entry.Entry.{Entry}
use Rattle.history_laws.proofs.Bound.{bounded}
use Rattle.audit_run.proofs.auditing.count_of.Goals as goal

pub overflow_cast-result : goal.overflow_cast-result
overflow_cast-result g c =
    let few : length c.args.history.now < 400000 = bounded g.R.ServiceRule.rule c.args.script.now c.script_is_within_limits.ensures c.args.history.now c.requires in
    let same : length c.entries.result.now ≡ length c.args.history.now = ap (λ (h : List Entry). length h) c.entries.ensures in
    omega arith

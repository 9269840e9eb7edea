use Rattle.std.proofs.Common.{◌≡◌, ◌<◌, List, ap, arith, length}
use Rattle.history_entry.specs.declared.entry.Entry.{Entry}
use Rattle.history_laws.proofs.Bound.{bounded}
use Rattle.browser_core.proofs.state.Core.may_apply.Goals as goal

pub could_follow-requires : goal.could_follow-requires
could_follow-requires g c =
    let few : length c.self.inside.history < 400000 =
    bounded g.V.Service.rule c.self.inside.script.now c.script_is_within_limits.ensures c.self.inside.history c.self.invariant.0.is_legal in
    let same : length c.entries-2.result.now ≡ length c.self.inside.history = ap (λ (h : List Entry). length h) c.entries-2.ensures in
    omega arith

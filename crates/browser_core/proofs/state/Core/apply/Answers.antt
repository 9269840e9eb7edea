use Rattle.std.proofs.Common.{List, subst}
use Rattle.std.specs.Prelude.{IfOk}
use Rattle.history_entry.specs.declared.entry.Entry.{Entry}
use Rattle.browser_core.proofs.state.Core.apply.Goals as goal
use Rattle.browser_core.specs.Applying.{Applies, Extends}
use Rattle.browser_core.specs.Cores.{CoreData}

pub returns-clause-applies : goal.returns-clause-applies
returns-clause-applies g c =
    let extends = subst (λ (h : List Entry). IfOk c.append_outcome-history.result.1 (Extends g.V.Service.rule c.self.inside.script.now c.args.outcome h c.append_outcome-history.result.0))
    c.replace-history.ensures.value c.append_outcome-history.ensures.applied in
    let extends_ok = subst (λ r. IfOk r (Extends g.V.Service.rule c.self.inside.script.now c.args.outcome c.self.inside.history c.append_outcome-history.result.0))
    c.in_ok-applied.was extends in
    subst (λ (v : CoreData). Applies g.V.Service.rule c.args.outcome v
    (record { script = c.self.inside.script.now; entries = c.append_outcome-history.result.0; out = c.end_task.new.tasks.out }) c.in_ok-applied.applied)
    c.self.view_is (record { extends = extends_ok; out = c.end_task.ensures.out })

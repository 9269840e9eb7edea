use Rattle.std.proofs.Common.{List, subst, sym}
use Rattle.std.specs.Prelude.{IfOk}
use Rattle.history_entry.specs.declared.entry.Entry.{Entry}
use Rattle.history_steps.specs.Run.{Legal}
use Rattle.browser_core.proofs.Claimed.{claimed, ok_map}
use Rattle.browser_core.proofs.state.Core.claim.Goals as goal
use Rattle.browser_core.specs.Claiming.{Claims}
use Rattle.browser_core.specs.Cores.{CoreData}

pub claim_task-requires-clause-legal : goal.claim_task-requires-clause-legal
claim_task-requires-clause-legal g c = record {
  rule = g.V.Service.rule;
  legal = subst (λ (h : List Entry). Legal g.V.Service.rule c.self.inside.script.now h) (sym c.entries.ensures) c.self.invariant.0.is_legal;
}

pub returns-clause-claims : goal.returns-clause-claims
returns-clause-claims g c =
    subst (λ (v : CoreData). IfOk c.claim_task.result (Claims g.V.Service.rule c.args.kind v
    (record { script = c.self.inside.script.now; entries = c.self.inside.history; out = c.claim_task.new.tasks.out })))
    c.self.view_is
    (ok_map c.claim_task.result
    (claimed g.V.Service.rule c.self.inside.script.now c.self.inside.history c.entries.result.now c.args.kind c.self.inside.tasks.out c.claim_task.new.tasks.out
    c.entries.ensures c.self.invariant.0.is_legal)
    c.claim_task.ensures.claims)

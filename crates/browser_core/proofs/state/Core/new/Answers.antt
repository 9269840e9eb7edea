use Rattle.std.proofs.Common.{List, subst, sym}
use Rattle.history_entry.specs.declared.entry.Entry.{Entry}
use Rattle.browser_core.proofs.InStep.{none_in_step}
use Rattle.browser_core.specs.Cores.{IsInStep}
use Rattle.browser_core.proofs.state.Core.new.Goals as goal

pub invariant_of-result : goal.invariant_of-result
invariant_of-result g c = (
  subst (λ (h : List Entry). IsInStep g.V.Service.rule (g.V.Service.kept c.args.services) c.args.script.now h) (sym c.new.ensures)
      (none_in_step g.V.Service.rule (g.V.Service.kept c.args.services) c.args.script.now c.requires),
  c.new-2.ensures.ready,
)

use Rattle.std.proofs.Common.{subst}
use Rattle.history_laws.specs.Laws.{Laws}
use Rattle.browser_core.specs.Cores.{CoreData}
use Rattle.browser_core.proofs.state.Core.close.Goals as goal

pub returns-clause-laws : goal.returns-clause-laws
returns-clause-laws g c =
    subst (λ (v : CoreData). Laws g.V.Service.rule v.script v.entries) c.self.view_is
    (c.laws_hold.ensures g.V.Service.rule c.self.inside.script.now c.self.inside.history c.self.invariant.0.is_legal)

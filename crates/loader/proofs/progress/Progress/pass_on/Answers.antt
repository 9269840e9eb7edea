use Rattle.std.proofs.Common.{sym, subst}
use Rattle.loader.specs.Reads.{came}
use Rattle.loader.specs.Steps.{IsStep}
use Rattle.loader.specs.declared.read.Read.{Read}
use Rattle.read_verdict.specs.declared.step.Step.TheVariants.{Piece}
use Rattle.loader.proofs.Taking.{next_step}
use Rattle.loader.proofs.progress.Progress.pass_on.Goals as goal

pub returns-in-Piece-clause-step : goal.returns-in-Piece-clause-step
returns-in-Piece-clause-step c =
    let numbered = c.number.ensures in
    let step = next_step c.args.self.now c.number.new.self c.in-Piece.piece c.args.cleared c.requires.waiting c.requires.headed numbered.held numbered.handed numbered.cleared numbered.ended c.number.result numbered.part in
    subst (λ (r : Read). IsStep c.args.self.now c.number.new.self (came r) (Piece c.number.result)) (sym c.in-Piece.is) step

use Rattle.std.proofs.Common.{ap, sym, subst, take, ◌∙◌}
use Rattle.browser_io.specs.Scripted.{IsCutFrom}
use Rattle.browser_io.proofs.Cutting.{first_cuts, cuts_rise}
use Rattle.browser_io.proofs.script_wire.cuts_within.Goals as goal

pub returns-clause-first : goal.returns-clause-first
returns-clause-first c =
    c.split_at.ensures.front
    ∙ ap (λ n. take n c.args.cuts.now) c.count_below-below.ensures
    ∙ first_cuts c.args.size c.args.end c.args.cuts.now c.requires

pub returns-clause-rising : goal.returns-clause-rising
returns-clause-rising c =
    subst (λ xs. IsCutFrom 0 c.args.end xs) (sym (returns-clause-first c)) (cuts_rise c.args.size c.args.end c.args.cuts.now c.requires)

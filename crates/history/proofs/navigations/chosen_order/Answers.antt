use Rattle.std.proofs.Common.{◌∙◌, [], ap, sym}
use Rattle.std.specs.Prelude.{unwrap_or}
use Rattle.history.proofs.Origins.{no_order}
use Rattle.history.proofs.navigations.chosen_order.Goals as goal

pub returns-in_default : goal.returns-in_default
returns-in_default c =
    sym (no_order c.args.facts.now.script c.args.facts.now.entries c.args.navigation
    (sym (ap (λ o. unwrap_or o []) c.in_default.is) ∙ c.in_ok-url.ensures))

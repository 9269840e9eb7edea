use Rattle.std.proofs.Common.{◌∙◌, sym, take}
use Rattle.browser_core.proofs.Possibles.{was_below}
use Rattle.browser_core.proofs.facts.possible.was_host_dead.Goals as goal

pub returns-then-is_host_dead : goal.returns-then-is_host_dead
returns-then-is_host_dead c =
    sym (was_below c.args.entries.now c.args.request c.loop-count.count c.loop-count-test.true (sym c.is_host_dead.ensures ∙ c.if-is_host_dead.true))

use Rattle.std.proofs.Common.{◌∙◌, ◌<◌, ℕ, ◌&&◌, sym, subst}
use Rattle.history_rules.specs.Documents.{is_current_in}
use Rattle.history_rules.specs.Sights.{next_act}
use Rattle.history_steps.specs.MayFollow.{is_crash}
use Rattle.history.proofs.Crashes.{some_below}
use Rattle.history.proofs.processes.has_crash.Goals as goal

pub returns-then-branch : goal.returns-then-branch
returns-then-branch c =
    sym (some_below
    (λ d. is_current_in c.args.facts.now.script c.args.facts.now.entries c.args.process d && is_crash (next_act c.args.facts.now.script c.args.facts.now.entries d))
    c.loop-document.document _
    (subst (λ (n : ℕ). c.loop-document.document < n) c.navigations_made-document-end.ensures c.loop-document-test.true)
    (sym c.in_ok-crashes_in.ensures ∙ c.if-branch.true))

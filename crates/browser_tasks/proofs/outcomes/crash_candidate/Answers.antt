use Rattle.std.proofs.Common.{◌∙◌, List, ap, sym}
use Rattle.browser_tasks.proofs.Acts.{crash_some}
use Rattle.browser_tasks.proofs.outcomes.crash_candidate.Goals as goal
use Rattle.history_entry.specs.declared.entry.Entry.{Entry}
use Rattle.history_rules.specs.Documents.{actions_done}

pub returns-in-Some-clause-answers : goal.returns-in-Some-clause-answers
returns-in-Some-clause-answers c =
    crash_some c.args.facts.now.script c.args.facts.now.entries c.args.document c.args.action _ c.in-Some.entry
    (sym (ap (λ (h : List Entry). actions_done h c.args.document) c.entries.ensures) ∙ c.has_done.ensures.0 c.if-not-has_done.false) c.in_ok-entry.ensures c.in-Some.is

use Rattle.std.proofs.Common.{◌≡◌, ◌<◌, ◌++◌, List, ap, arith, length, subst}
use Rattle.history_entry.specs.declared.entry.Entry.{Entry}
use Rattle.history_laws.proofs.Bound.{bounded}
use Rattle.browser_core.proofs.Filling.{added_in_step}
use Rattle.browser_core.proofs.applying.fill_outcome.Goals as goal
use Rattle.browser_core.specs.Cores.{KeepAllAccepted}
use Rattle.browser_core.specs.Walking.{Settles, added_by}
use Rattle.browser_core.specs.declared.facts.settling.Settled.{Settled}

pub overflow_cast-result : goal.overflow_cast-result
overflow_cast-result g c =
    let few : length c.args.roomy < 400000 = bounded g.V.Service.rule c.args.script.now c.requires.limits c.args.roomy c.requires.kept.is_legal in
    let same : length c.entries.result.now ≡ length c.args.roomy = ap (λ (h : List Entry). length h) c.entries.ensures in
    let told : c.entry_count-place.result ≡ length c.entries.result.now = c.entry_count-place.ensures in
    omega arith

pub outcome_entry-requires-clause-short : goal.outcome_entry-requires-clause-short
outcome_entry-requires-clause-short g c =
    let few : length c.args.roomy < 400000 = bounded g.V.Service.rule c.args.script.now c.requires.limits c.args.roomy c.requires.kept.is_legal in
    let same : length c.entries-2.result.now ≡ length c.args.roomy = ap (λ (h : List Entry). length h) c.entries-2.ensures in
    omega arith

pub returns-in-Ok-Entry-clause-kept : goal.returns-in-Ok-Entry-clause-kept
returns-in-Ok-Entry-clause-kept g c =
    added_in_step g.V.Service.rule c.args.script.now c.args.outcome.now c.args.roomy c.entries-2.result.now c.entries-2.ensures
    (g.V.Service.kept c.args.services.now) (g.V.Service.kept c.outcome_entry.new.services) c.in-Ok-Entry.entry c.push.result c.requires.kept
    (subst (Settles g.V.Service.rule c.args.script.now c.entries-2.result.now c.args.outcome.now) c.in-Ok-Entry.field-0-is c.in-Ok-Entry.ensures.settles)
    (subst (λ (settled : Settled). KeepAllAccepted (g.V.Service.kept c.outcome_entry.new.services) (c.entries-2.result.now ++ added_by settled)) c.in-Ok-Entry.field-0-is c.in-Ok-Entry.ensures.kept)
    c.push.ensures

use Rattle.std.proofs.Common.{◌≡◌, ◌<◌, List, ap, arith, length}
use Rattle.history_entry.specs.declared.entry.Entry.{Entry}
use Rattle.history_laws.proofs.Bound.{bounded}
use Rattle.browser_core.proofs.InStep.{pushed_in_step}
use Rattle.browser_core.proofs.steps.fill_first.Goals as goal

pub overflow_cast-result : goal.overflow_cast-result
overflow_cast-result g c =
    let few : length c.args.roomy < 400000 = bounded g.V.Service.rule c.args.script.now c.requires.limits c.args.roomy c.requires.kept.is_legal in
    let same : length c.entries.result.now ≡ length c.args.roomy = ap (λ (h : List Entry). length h) c.entries.ensures in
    let told : c.entry_count-place.result ≡ length c.entries.result.now = c.entry_count-place.ensures in
    omega arith

pub returns-in-Ok-Some-clause-kept : goal.returns-in-Ok-Some-clause-kept
returns-in-Ok-Some-clause-kept g c =
    pushed_in_step g.V.Service.rule (g.V.Service.kept c.args.services.now) (g.V.Service.kept c.first_entry.new.services) c.args.script.now
    c.args.roomy c.entries-2.result.now c.in-Ok-Some.field-0 c.in-Ok-Some.entry c.push.result
    c.entries-2.ensures c.in-Ok-Some.field-0-is c.requires.kept c.in-Ok-Some.ensures.first c.in-Ok-Some.ensures.kept c.push.ensures

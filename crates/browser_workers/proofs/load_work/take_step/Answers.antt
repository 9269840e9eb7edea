use Rattle.std.proofs.Common.{◌≡◌, Bool, Ok, ap, subst, sym, true, ℕ, ◌∙◌}
use Rattle.read_verdict.specs.declared.step.Step.{Step}
use Rattle.browser_tasks.specs.declared.outcome.Outcome.TheVariants as outcomes
use Rattle.work_queue.specs.declared.task.LoadTask.{LoadTask}
use Rattle.task_work.specs.Stands.{StandsWithin}
use Rattle.browser_workers.proofs.Loads.{more_map, stands_behind, step_may}
use Rattle.browser_workers.specs.Asking.{MayBring}
use Rattle.browser_workers.specs.Loads.{GoesOnBehind}
use Rattle.browser_workers.proofs.load_work.take_step.Goals as goal

pub bring_step-requires-clause-may : goal.bring_step-requires-clause-may
bring_step-requires-clause-may g c =
    let same : c.request.result ≡ c.args.load.now.task.request = c.request.ensures ∙ ap (λ (t : LoadTask). t.request) c.in_ok-step.ensures.task in
    subst (λ (r : ℕ). MayBring g.B.Bench.rule g.B.Bench.pages c.args.pass.now.seen (outcomes.Load (record { request = r; step = c.in_ok-step.step }))) (sym same)
    (step_may g.B.Bench.rule c.args.pass.now.seen c.args.load.now c.step.new.self (c.steps_may_come_back.ensures g.B.Bench.rule) (c.dead_hosts_make_steps_gone.ensures.comes g.B.Bench.rule)
    c.requires.stands g.B.Bench.pages c.in_ok-step.step c.requires.script c.in_ok-step.ensures.steps (sym c.if-is_held.ensures)
    (λ gone. sym c.requires.standing ∙ c.is_dead.ensures.0 (c.in_ok-step.ensures.gone.0 (ap (λ (x : Step). Ok x) gone))))

pub returns-clause-stands : goal.returns-clause-stands
returns-clause-stands g c =
    let same : c.request.result ≡ c.args.load.now.task.request = c.request.ensures ∙ ap (λ (t : LoadTask). t.request) c.in_ok-step.ensures.task in
    let seen = c.args.pass.now.seen in
    let after = c.bring_step.new.pass.seen in
    more_map c.bring_step.result
    (λ (more : Bool). more ≡ true → GoesOnBehind g.B.Bench.rule g.B.Bench.pages (outcomes.Load (record { request = c.request.result; step = c.in_ok-step.step })) seen after)
    (λ (more : Bool). more ≡ true → StandsWithin g.B.Bench.rule after c.step.new.self)
    (λ more behind is. stands_behind g.B.Bench.rule g.B.Bench.pages (c.loads_stand_within_later_histories.ensures.stays g.B.Bench.rule)
    (c.loads_stand_within_later_histories.ensures.goes_on g.B.Bench.rule) seen after c.args.load.now c.step.new.self c.in_ok-step.step c.requires.script c.in_ok-step.ensures.steps c.requires.stands
    (subst (λ (r : ℕ). GoesOnBehind g.B.Bench.rule g.B.Bench.pages (outcomes.Load (record { request = r; step = c.in_ok-step.step })) seen after) same (behind is)))
    c.bring_step.ensures.more

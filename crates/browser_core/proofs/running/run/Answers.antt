use Rattle.std.proofs.Common.{◌≡◌, ◌∙◌, ◌++◌, length, subst, sym}
use Rattle.std.specs.Option.{option_map, option_to_list}
use Rattle.script_model.specs.ScriptData.{ScriptData}
use Rattle.history_steps.specs.Run.{IsRun, first_next}
use Rattle.browser_core.proofs.Firstly.{ends, goes_on}
use Rattle.browser_core.proofs.running.run.Goals as goal

pub loop-core-smaller : goal.loop-core-smaller
loop-core-smaller g c =
    (goes_on g.V.Service.rule c.args.script.now c.script_is_within_limits.ensures c.loop-core.core.entries c.first.new.self.entries c.in_ok-first.field-0 c.loop-core.invariant.1
    (subst (λ (s : ScriptData). c.first.new.self.entries ≡ c.loop-core.core.entries ++ option_to_list (first_next g.V.Service.rule s c.loop-core.core.entries)) c.loop-core.invariant.0 c.in_ok-first.ensures.first)
    (subst (λ (s : ScriptData). c.in_ok-first.field-0 ≡ option_map (λ _. length c.loop-core.core.entries) (first_next g.V.Service.rule s c.loop-core.core.entries)) c.loop-core.invariant.0 c.in_ok-first.ensures.place)
    (sym c.is_some.ensures ∙ c.if-is_some.true)).shorter

pub loop-core-preserved : goal.loop-core-preserved
loop-core-preserved g c = (
  c.in_ok-first.ensures.script ∙ c.loop-core.invariant.0,
  (goes_on g.V.Service.rule c.args.script.now c.script_is_within_limits.ensures c.loop-core.core.entries c.first.new.self.entries c.in_ok-first.field-0 c.loop-core.invariant.1
      (subst (λ (s : ScriptData). c.first.new.self.entries ≡ c.loop-core.core.entries ++ option_to_list (first_next g.V.Service.rule s c.loop-core.core.entries)) c.loop-core.invariant.0 c.in_ok-first.ensures.first)
      (subst (λ (s : ScriptData). c.in_ok-first.field-0 ≡ option_map (λ _. length c.loop-core.core.entries) (first_next g.V.Service.rule s c.loop-core.core.entries)) c.loop-core.invariant.0 c.in_ok-first.ensures.place)
      (sym c.is_some.ensures ∙ c.if-is_some.true)).firsts,
)

pub returns : goal.returns
returns g c =
    subst (IsRun g.V.Service.rule c.args.script.now) (sym c.close.ensures.history)
    (ends g.V.Service.rule c.args.script.now c.loop-core.core.entries c.first.new.self.entries c.in_ok-first.field-0 c.loop-core.invariant.1
    (subst (λ (s : ScriptData). c.first.new.self.entries ≡ c.loop-core.core.entries ++ option_to_list (first_next g.V.Service.rule s c.loop-core.core.entries)) c.loop-core.invariant.0 c.in_ok-first.ensures.first)
    (subst (λ (s : ScriptData). c.in_ok-first.field-0 ≡ option_map (λ _. length c.loop-core.core.entries) (first_next g.V.Service.rule s c.loop-core.core.entries)) c.loop-core.invariant.0 c.in_ok-first.ensures.place)
    (sym c.is_some.ensures ∙ c.if-is_some.false))

use Rattle.std.proofs.Common.{◌≡◌, ℕ, Bool, true, cond, sym, ap, ◌∙◌}
use Rattle.std.specs.List.{list_all}
use Rattle.public_suffix.specs.Labels.{label_count}
use Rattle.public_suffix.specs.RegistrableDomain.{most_labels, matching_exceptions}
use Rattle.public_suffix.specs.RuleLines.{is_rule}
use Rattle.public_suffix.proofs.Steps.{exception_step, exception_end}
use Rattle.public_suffix.proofs.rules.Rules.longest_exception.Goals as goal

pub returns-then-has_exception : goal.returns-then-has_exception
returns-then-has_exception c =
    let formed : list_all is_rule c.args.self.now ≡ true = ap (list_all is_rule) (sym c.self.view_is) ∙ c.self.invariant.formed in
    let step = exception_step c.args.self.now c.loop-rest.suffix.now _ c.in-Some.rest.now formed c.in-Some.ensures.0 in
    c.label_count.ensures
    ∙ sym (c.loop-rest.invariant.same ∙ step ∙ ap (λ (found : Bool). cond {A = ℕ} found (label_count c.loop-rest.suffix.now) (most_labels (matching_exceptions c.args.self.now c.in-Some.rest.now))) (sym c.if-has_exception.ensures))

pub loop-rest-preserved : goal.loop-rest-preserved
loop-rest-preserved c =
    let formed : list_all is_rule c.args.self.now ≡ true = ap (list_all is_rule) (sym c.self.view_is) ∙ c.self.invariant.formed in
    let step = exception_step c.args.self.now c.loop-rest.suffix.now _ c.in-Some.rest.now formed c.in-Some.ensures.0 in
    record {
      same = c.loop-rest.invariant.same ∙ step ∙ ap (λ (found : Bool). cond {A = ℕ} found (label_count c.loop-rest.suffix.now) (most_labels (matching_exceptions c.args.self.now c.in-Some.rest.now))) (sym c.if-has_exception.ensures);
      text = c.in-Some.ensures.1;
    }

pub returns : goal.returns
returns c =
    let formed : list_all is_rule c.args.self.now ≡ true = ap (list_all is_rule) (sym c.self.view_is) ∙ c.self.invariant.formed in
    sym (c.loop-rest.invariant.same ∙ exception_end c.args.self.now c.loop-rest.suffix.now formed c.in_default.ensures)

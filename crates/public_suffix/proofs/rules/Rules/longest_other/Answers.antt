use Rattle.std.proofs.Common.{◌≡◌, ℕ, Bool, true, false, cond, ◌||◌, max, sym, ap, ◌∙◌, arith}
use Rattle.std.specs.List.{list_all, list_any}
use Rattle.public_suffix.specs.Labels.{label_count}
use Rattle.public_suffix.specs.RegistrableDomain.{most_labels, matching_others}
use Rattle.public_suffix.specs.RuleLines.{is_rule}
use Rattle.public_suffix.specs.RuleTexts.{is_other_with, is_star_before}
use Rattle.public_suffix.proofs.LabelStart.{some_labels}
use Rattle.public_suffix.proofs.Steps.{other_step, other_end}
use Rattle.public_suffix.proofs.rules.Rules.longest_other.Goals as goal
use Rattle.public_suffix.proofs.rules.Rules.longest_other.Goals.{then-has_other-via-then-has_other, then-has_other-via-else-has_other+then-has_star}

pub returns-then-has_other : goal.returns-then-has_other
returns-then-has_other c =
    let formed : list_all is_rule c.args.self.now ≡ true = ap (list_all is_rule) (sym c.self.view_is) ∙ c.self.invariant.formed in
    let step = other_step c.args.self.now c.loop-rest.suffix.now _ c.in-Some.rest.now formed c.in-Some.ensures.0 in
    let star = list_any (is_star_before c.in-Some.rest.now) c.args.self.now in
    let found : (list_any (is_other_with c.loop-rest.suffix.now) c.args.self.now || star) ≡ true =
    elim c.then-has_other.branch [
      | then-has_other-via-then-has_other w ↦ ap (λ b. b || star) (sym c.has_other.ensures ∙ w.if-has_other.true)
      | then-has_other-via-else-has_other+then-has_star w ↦ ap (λ b. b || star) (sym c.has_other.ensures ∙ w.if-has_other.false) ∙ (sym w.has_star.ensures ∙ w.if-has_star.true)
    ] in
    let most : most_labels (matching_others c.args.self.now c.loop-rest.suffix.now) ≡ label_count c.loop-rest.suffix.now =
    step ∙ ap (λ (any : Bool). cond {A = ℕ} any (label_count c.loop-rest.suffix.now) (most_labels (matching_others c.args.self.now c.in-Some.rest.now))) found in
    omega (arith, c.label_count.ensures, c.loop-rest.invariant.same, most, some_labels c.loop-rest.suffix.now)

pub loop-rest-preserved : goal.loop-rest-preserved
loop-rest-preserved c =
    let formed : list_all is_rule c.args.self.now ≡ true = ap (list_all is_rule) (sym c.self.view_is) ∙ c.self.invariant.formed in
    let step = other_step c.args.self.now c.loop-rest.suffix.now _ c.in-Some.rest.now formed c.in-Some.ensures.0 in
    let star = list_any (is_star_before c.in-Some.rest.now) c.args.self.now in
    let none : (list_any (is_other_with c.loop-rest.suffix.now) c.args.self.now || star) ≡ false =
    ap (λ b. b || star) (sym c.if-has_other.ensures) ∙ sym c.if-has_star.ensures in
    let most : most_labels (matching_others c.args.self.now c.loop-rest.suffix.now) ≡ most_labels (matching_others c.args.self.now c.in-Some.rest.now) =
    step ∙ ap (λ (any : Bool). cond {A = ℕ} any (label_count c.loop-rest.suffix.now) (most_labels (matching_others c.args.self.now c.in-Some.rest.now))) none in
    record {
      same = c.loop-rest.invariant.same ∙ ap (λ (n : ℕ). max 1 n) most;
      text = c.in-Some.ensures.1;
    }

pub returns : goal.returns
returns c =
    let formed : list_all is_rule c.args.self.now ≡ true = ap (list_all is_rule) (sym c.self.view_is) ∙ c.self.invariant.formed in
    sym (c.loop-rest.invariant.same ∙ other_end c.args.self.now c.loop-rest.suffix.now formed c.in_default.ensures)

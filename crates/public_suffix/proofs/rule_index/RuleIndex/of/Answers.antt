use Rattle.std.proofs.Common.{◌∷◌, [], ◌++◌, List, take, length, ◌<◌, sym, ap, ◌∙◌, subst, arith}
use Rattle.std.proofs.lemmas.List.{take_more}
use Rattle.public_suffix.specs.RegistrableDomain.{SuffixRule}
use Rattle.public_suffix.specs.IndexLayout.{IsIndexOf}
use Rattle.public_suffix.proofs.rule_index.RuleIndex.of.Goals as goal

pub loop-rule-preserved : goal.loop-rule-preserved
loop-rule-preserved c =
    let within : c.loop-rule.rule-index < length c.args.rules.now = omega arith in
    let seen = take c.loop-rule.rule-index c.args.rules.now in
    subst (λ (rules : List SuffixRule). IsIndexOf c.add.new.self rules)
    (ap (λ (rule : SuffixRule). seen ++ rule ∷ []) c.rule-item.is ∙ sym (take_more c.args.rules.now c.loop-rule.rule-index c.rule-item.result within))
    (c.in_ok-add.ensures seen c.loop-rule.invariant)

use Rattle.std.proofs.Common.{◌≡◌, ℕ, ◌==◌, ◌∷◌, [], ◌++◌, List, sym, ap, subst, ◌∙◌, arith, length, take, rules, tests, take_all}
use Rattle.std.proofs.lemmas.Iterator.Splits.{YieldsList-from_slice_split}
use Rattle.std.proofs.lemmas.Iterator.Consumers.{YieldsList-turn, YieldsList-end}
use Rattle.std.proofs.lemmas.List.{length_push}
use Rattle.std.proofs.lemmas.Result.{err_from_is_err_and}
use Rattle.public_suffix.specs.RegistrableDomain.{SuffixRule}
use Rattle.public_suffix.specs.Reading.{lines, rules_on, line_number}
use Rattle.public_suffix.proofs.ReadingLemmas.{IsLineAt, NoneBadBelow, rules_more, none_bad_more, refused_reading, reading_good}
use Rattle.public_suffix.proofs.plain_rules.PlainRules.read.Goals as goal

pub returns : goal.returns
returns c =
    let all = YieldsList-from_slice_split _ (λ b. b == 10) c.args.text.now (cc) (cc) (cc) (λ x b q k. search (rules, tests)) in
    let t = YieldsList-end all c.loop-line.yielded _ c.loop-line.yielded_by _ _ c.in-None.is c.next.ensures.steps in
    reading_good c.args.text.now _
    (subst (λ (n : ℕ). NoneBadBelow (lines c.args.text.now) n) t.1 c.loop-line.invariant.none_bad)
    (c.loop-line.invariant.rules ∙ ap rules_on (take_all (length c.loop-line.yielded) (lines c.args.text.now) (omega (arith, t.1))))

pub returns-in_err-add_line : goal.returns-in_err-add_line
returns-in_err-add_line c =
    let all = YieldsList-from_slice_split _ (λ b. b == 10) c.args.text.now (cc) (cc) (cc) (λ x b q k. search (rules, tests)) in
    let t = YieldsList-turn all c.loop-line.yielded _ c.loop-line.yielded_by _ _ c.in-Some.line c.in-Some.is c.next.ensures.steps in
    let there : IsLineAt (lines c.args.text.now) (length c.loop-line.yielded) c.in-Some.line.now = record { within = t.0; at = t.1 } in
    let p = err_from_is_err_and c.from_residual.result c.from_residual.ensures.1 in
    let number : c.saturating_add-number.result ≡ line_number (length c.loop-line.yielded) = omega arith in
    rw (p.1, p.2) (refused_reading c.args.text.now (length c.loop-line.yielded) c.saturating_add-number.result c.in-Some.line.now c.in_err-add_line.field-0.0 there c.loop-line.invariant.none_bad number c.in_err-add_line.ensures.refused)

pub loop-line-preserved : goal.loop-line-preserved
loop-line-preserved c =
    let all = YieldsList-from_slice_split _ (λ b. b == 10) c.args.text.now (cc) (cc) (cc) (λ x b q k. search (rules, tests)) in
    let t = YieldsList-turn all c.loop-line.yielded _ c.loop-line.yielded_by _ _ c.in-Some.line c.in-Some.is c.next.ensures.steps in
    let there : IsLineAt (lines c.args.text.now) (length c.loop-line.yielded) c.in-Some.line.now = record { within = t.0; at = t.1 } in
    let count = length_push c.loop-line.yielded c.in-Some.line in
    record {
      rules = c.in_ok-add_line.ensures.added
          ∙ ap (λ (before : List SuffixRule). before ++ rules_on (c.in-Some.line.now ∷ [])) c.loop-line.invariant.rules
          ∙ sym (rules_more (lines c.args.text.now) (length c.loop-line.yielded) c.in-Some.line.now there)
          ∙ ap (λ (n : ℕ). rules_on (take n (lines c.args.text.now))) (sym count);
      none_bad = subst (λ (n : ℕ). NoneBadBelow (lines c.args.text.now) n) (sym count) (none_bad_more (lines c.args.text.now) (length c.loop-line.yielded) c.in-Some.line.now there c.loop-line.invariant.none_bad c.in_ok-add_line.ensures.fine);
      number = omega arith;
    }

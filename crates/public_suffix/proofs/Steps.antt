-- One step of the walk from a host's first label to its last.
use Rattle.std.proofs.Common.{◌≡◌, ℕ, ◌+◌, ◌<◌, ◌≤◌, Bool, true, false, cond, not, ◌&&◌, ◌||◌, max, nat_le, List, [], ◌∷◌, ◌++◌, length, refl, ap, sym, ◌∙◌, arith, codes}
use Rattle.std.specs.Prelude.{bytes_eq}
use Rattle.std.specs.List.{list_any, list_all}
use Rattle.std.proofs.lemmas.Bool.Decides.{nat_tests}
use Rattle.public_suffix.specs.Labels.{labels, label_count, IsLabelBefore}
use Rattle.public_suffix.specs.RegistrableDomain.{SuffixRule, fits_last, matches, most_labels, matching_exceptions, matching_others}
use Rattle.public_suffix.specs.RuleLines.{is_rule, has_rule_labels}
use Rattle.public_suffix.specs.RuleTexts.{is_exception_with, is_other_with, is_star_before}
use Rattle.public_suffix.proofs.IndexLemmas.{and_left, and_right, equal_bytes}
use Rattle.public_suffix.proofs.Fits.{fits_all, fits_last_more, fits_last_length, exception_fits, other_fits}
use Rattle.public_suffix.proofs.Walk.{Parts, longest_by, bounded}

more_at : (host label rest : List ℕ) (rule : SuffixRule) → IsLabelBefore host label rest → matches host rule ≡ (fits_all (labels host) (labels rule.text) || matches rest rule)
more_at host label rest rule before =
    ap (λ ls. fits_last ls (labels rule.text)) before.split ∙ fits_last_more label (labels rest) (labels rule.text)
    ∙ ap (λ ls. fits_all ls (labels rule.text) || matches rest rule) (sym before.split)

counted : (host label rest : List ℕ) → IsLabelBefore host label rest → label_count host ≡ label_count rest + 1
counted host label rest before = omega (arith, ap length before.split)

exception_by : (e fits all with later : Bool) → (e ≡ true → all ≡ with) → fits ≡ (all || later) → (e && fits) ≡ ((e && with) || (e && later))
exception_by true fits all with later same is = is ∙ ap (λ b. b || later) (same refl)
exception_by false fits all with later same is = refl

other_by : (e fits all with star later : Bool) → (e ≡ false → all ≡ (with || star)) → fits ≡ (all || later) → (not e && fits) ≡ (((not e && with) || (not e && star)) || (not e && later))
other_by false fits all with star later same is = is ∙ ap (λ b. b || later) (same refl)
other_by true fits all with star later same is = refl

exception_parts : (host label rest : List ℕ) → IsLabelBefore host label rest → Parts (λ rule. rule.exception && matches host rule) (is_exception_with host) (λ rule. rule.exception && matches rest rule) (label_count host)
exception_parts host label rest before = record {
  splits = λ rule formed. exception_by rule.exception (matches host rule) (fits_all (labels host) (labels rule.text)) (bytes_eq host rule.text) (matches rest rule) (λ is. exception_fits host rule formed is) (more_at host label rest rule before);
  exact = λ rule here. ap label_count (sym (equal_bytes host rule.text (and_right rule.exception (bytes_eq host rule.text) here)));
  fewer = λ rule formed later. let few = fits_last_length (labels rest) (labels rule.text) (and_right rule.exception (matches rest rule) later) in omega (arith, counted host label rest before);
}

star_count : (text : List ℕ) → label_count (codes "*." ++ text) ≡ label_count text + 1
star_count text = omega arith

or_cases : {A : Type 0} (a b : Bool) → (a || b) ≡ true → (a ≡ true → A) → (b ≡ true → A) → A
or_cases true b either left right = left refl
or_cases false b either left right = right either

-- a rule that is the host, or `*.` and its rest
abbrev pub is_other_at : List ℕ → List ℕ → SuffixRule → Bool
is_other_at host rest rule = is_other_with host rule || is_star_before rest rule

other_parts : (host label rest : List ℕ) → IsLabelBefore host label rest → Parts (λ rule. not rule.exception && matches host rule) (is_other_at host rest) (λ rule. not rule.exception && matches rest rule) (label_count host)
other_parts host label rest before = record {
  splits = λ rule formed. other_by rule.exception (matches host rule) (fits_all (labels host) (labels rule.text)) (bytes_eq host rule.text) (bytes_eq (codes "*." ++ rest) rule.text) (matches rest rule) (λ is. other_fits host rest label rule before.split formed is) (more_at host label rest rule before);
  exact = λ rule here. or_cases (is_other_with host rule) (is_star_before rest rule) here
      (λ same. ap label_count (sym (equal_bytes host rule.text (and_right (not rule.exception) (bytes_eq host rule.text) same))))
      (λ star. ap label_count (sym (equal_bytes (codes "*." ++ rest) rule.text (and_right (not rule.exception) (bytes_eq (codes "*." ++ rest) rule.text) star))) ∙ star_count rest ∙ sym (counted host label rest before));
  fewer = λ rule formed later. let few = fits_last_length (labels rest) (labels rule.text) (and_right (not rule.exception) (matches rest rule) later) in omega (arith, counted host label rest before);
}

some_of : (host label rest : List ℕ) → IsLabelBefore host label rest → 0 < label_count host
some_of host label rest before = omega (arith, counted host label rest before)

-- the longest exception that matches is the host itself, or matches the rest
pub exception_step : (rules : List SuffixRule) (host label rest : List ℕ) → list_all is_rule rules ≡ true → IsLabelBefore host label rest → most_labels (matching_exceptions rules host) ≡ cond (list_any (is_exception_with host) rules) (label_count host) (most_labels (matching_exceptions rules rest))
exception_step rules host label rest formed before =
    longest_by (λ rule. rule.exception && matches host rule) (is_exception_with host) (λ rule. rule.exception && matches rest rule) (label_count host) (some_of host label rest before) (exception_parts host label rest before) rules formed

any_either : (p q : SuffixRule → Bool) (rules : List SuffixRule) → list_any (λ rule. p rule || q rule) rules ≡ (list_any p rules || list_any q rules)
any_either p q [] = refl
any_either p q (rule ∷ rules) = let more = any_either p q rules in grind (arith, nat_tests)

-- the longest other rule that matches is the host itself or `*.` and the rest, or matches the rest
pub other_step : (rules : List SuffixRule) (host label rest : List ℕ) → list_all is_rule rules ≡ true → IsLabelBefore host label rest → most_labels (matching_others rules host) ≡ cond (list_any (is_other_with host) rules || list_any (is_star_before rest) rules) (label_count host) (most_labels (matching_others rules rest))
other_step rules host label rest formed before =
    longest_by (λ rule. not rule.exception && matches host rule) (is_other_at host rest) (λ rule. not rule.exception && matches rest rule) (label_count host) (some_of host label rest before) (other_parts host label rest before) rules formed
    ∙ ap (λ any. cond any (label_count host) (most_labels (matching_others rules rest))) (any_either (is_other_with host) (is_star_before rest) rules)

two_labels : (rule : SuffixRule) → is_rule rule ≡ true → rule.exception ≡ true → 2 ≤ label_count rule.text
unfolding is_rule
two_labels rule formed exception =
    let long = and_right (has_rule_labels rule.exception rule.text) (not rule.exception || nat_le 2 (label_count rule.text)) formed in
    grind (arith, nat_tests)

-- no exception matches a host of one label
pub exception_end : (rules : List SuffixRule) (host : List ℕ) → list_all is_rule rules ≡ true → label_count host ≡ 1 → most_labels (matching_exceptions rules host) ≡ 0
exception_end rules host formed one =
    let few = bounded (λ rule. rule.exception && matches host rule) 1 (omega arith)
    (λ rule good passes.
    let long = two_labels rule good (and_left rule.exception (matches host rule) passes) in
    let short = fits_last_length (labels host) (labels rule.text) (and_right rule.exception (matches host rule) passes) in
    omega (arith, one)) rules formed in
    omega arith

-- and no rule of two labels or more
pub other_end : (rules : List SuffixRule) (host : List ℕ) → list_all is_rule rules ≡ true → label_count host ≡ 1 → max 1 (most_labels (matching_others rules host)) ≡ 1
other_end rules host formed one =
    let few = bounded (λ rule. not rule.exception && matches host rule) 2 (omega arith)
    (λ rule good passes.
    let short = fits_last_length (labels host) (labels rule.text) (and_right (not rule.exception) (matches host rule) passes) in
    omega (arith, one)) rules formed in
    omega arith

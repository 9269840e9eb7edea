-- The longest rule that matches a host, found by walking from the host's first label to its last.
use Rattle.std.proofs.Common.{◌≡◌, ℕ, ◌<◌, Bool, true, false, cond, ◌||◌, max, List, [], ◌∷◌, refl, ap, sym, ◌∙◌, arith, ⊎_elim}
use Rattle.std.specs.Prelude.{fold, filter}
use Rattle.std.specs.List.{list_any, list_all}
use Rattle.std.proofs.lemmas.Bool.{cases_Bool}
use Rattle.public_suffix.specs.Labels.{label_count}
use Rattle.public_suffix.specs.RegistrableDomain.{SuffixRule}
use Rattle.public_suffix.specs.RuleLines.{is_rule}
use Rattle.public_suffix.proofs.IndexLemmas.{and_left, and_right}

-- the most labels among the rules that pass, and `start`
abbrev pub most_from : ℕ → (SuffixRule → Bool) → List SuffixRule → ℕ
most_from start passes rules = fold (λ most rule. max most (label_count rule.text)) start (filter passes rules)

from_step : (start : ℕ) (passes : SuffixRule → Bool) (rule : SuffixRule) (rules : List SuffixRule) (b : Bool) → passes rule ≡ b → most_from start passes (rule ∷ rules) ≡ most_from (cond b (max start (label_count rule.text)) start) passes rules
from_step start passes rule rules true is = ap (λ b. fold (λ most r. max most (label_count r.text)) start (cond b (rule ∷ filter passes rules) (filter passes rules))) is
from_step start passes rule rules false is = ap (λ b. fold (λ most r. max most (label_count r.text)) start (cond b (rule ∷ filter passes rules) (filter passes rules))) is

-- the start counts as one more number
from_start : (start : ℕ) (passes : SuffixRule → Bool) (rules : List SuffixRule) → most_from start passes rules ≡ max start (most_from 0 passes rules)
from_start start passes [] = omega arith
from_start start passes (rule ∷ rules) =
    ⊎_elim
    (λ yes. let a = from_step start passes rule rules true yes in let b = from_step 0 passes rule rules true yes in
    let c = from_start (max start (label_count rule.text)) passes rules in let d = from_start (max 0 (label_count rule.text)) passes rules in
    omega (arith, a, b, c, d))
    (λ no. let a = from_step start passes rule rules false no in let b = from_step 0 passes rule rules false no in
    let c = from_start start passes rules in omega (arith, a, b, c))
    (cases_Bool (passes rule))

-- of the rules that fit, those `here` have exactly this many labels, and the `later` ones fewer
pub record Parts (fits here later : SuffixRule → Bool) (count : ℕ) : Type 0 where
  pub splits : (rule : SuffixRule) → is_rule rule ≡ true → fits rule ≡ (here rule || later rule)
  pub exact : (rule : SuffixRule) → here rule ≡ true → label_count rule.text ≡ count
  pub fewer : (rule : SuffixRule) → is_rule rule ≡ true → later rule ≡ true → label_count rule.text < count

first_formed : (rule : SuffixRule) (rules : List SuffixRule) → list_all is_rule (rule ∷ rules) ≡ true → is_rule rule ≡ true
first_formed rule rules formed = and_left (is_rule rule) (list_all is_rule rules) formed

others_formed : (rule : SuffixRule) (rules : List SuffixRule) → list_all is_rule (rule ∷ rules) ≡ true → list_all is_rule rules ≡ true
others_formed rule rules formed = and_right (is_rule rule) (list_all is_rule rules) formed

-- where each rule that passes has fewer labels than `count`
pub bounded : (passes : SuffixRule → Bool) (count : ℕ) → 0 < count → ((rule : SuffixRule) → is_rule rule ≡ true → passes rule ≡ true → label_count rule.text < count) → (rules : List SuffixRule) → list_all is_rule rules ≡ true → most_from 0 passes rules < count
bounded passes count some few [] formed = omega arith
bounded passes count some few (rule ∷ rules) formed =
    let m = bounded passes count some few rules (others_formed rule rules formed) in
    ⊎_elim
    (λ yes. let a = from_step 0 passes rule rules true yes in let b = from_start (max 0 (label_count rule.text)) passes rules in
    let f = few rule (first_formed rule rules formed) yes in omega (arith, a, b, f, m))
    (λ no. let a = from_step 0 passes rule rules false no in omega (arith, a, m))
    (cases_Bool (passes rule))

here_by : (any : Bool) (count most longest other : ℕ) → other < count → most ≡ cond any count other → longest ≡ max count most → longest ≡ count
here_by true count most longest other less most_is is = omega arith
here_by false count most longest other less most_is is = omega arith

later_by : (any : Bool) (count own most longest other others : ℕ) → own < count → most ≡ cond any count other → longest ≡ max own most → others ≡ max own other → longest ≡ cond any count others
later_by true count own most longest other others less most_is is others_is = omega arith
later_by false count own most longest other others less most_is is others_is = omega arith

none_by : (any : Bool) (count most longest other others : ℕ) → most ≡ cond any count other → longest ≡ most → others ≡ other → longest ≡ cond any count others
none_by true count most longest other others most_is is others_is = omega arith
none_by false count most longest other others most_is is others_is = omega arith

-- a rule here is the longest; else the longest is a later one
pub longest_by : (fits here later : SuffixRule → Bool) (count : ℕ) → 0 < count → Parts fits here later count → (rules : List SuffixRule) → list_all is_rule rules ≡ true → most_from 0 fits rules ≡ cond (list_any here rules) count (most_from 0 later rules)
longest_by fits here later count some parts [] formed = refl
longest_by fits here later count some parts (rule ∷ rules) formed =
    let rest = others_formed rule rules formed in
    let good = first_formed rule rules formed in
    let more = longest_by fits here later count some parts rules rest in
    let less = bounded later count some parts.fewer rules rest in
    ⊎_elim
    (λ yes.
    let fit : fits rule ≡ true = parts.splits rule good ∙ ap (λ b. b || later rule) yes in
    let longest : most_from 0 fits (rule ∷ rules) ≡ max count (most_from 0 fits rules) = omega (arith, from_step 0 fits rule rules true fit, from_start (max 0 (label_count rule.text)) fits rules, parts.exact rule yes) in
    here_by (list_any here rules) count (most_from 0 fits rules) (most_from 0 fits (rule ∷ rules)) (most_from 0 later rules) less more longest
    ∙ sym (ap (λ b. cond (b || list_any here rules) count (most_from 0 later (rule ∷ rules))) yes))
    (λ no.
    ⊎_elim
    (λ after.
    let fit : fits rule ≡ true = parts.splits rule good ∙ ap (λ b. b || later rule) no ∙ after in
    let longest : most_from 0 fits (rule ∷ rules) ≡ max (label_count rule.text) (most_from 0 fits rules) = omega (arith, from_step 0 fits rule rules true fit, from_start (max 0 (label_count rule.text)) fits rules) in
    let others : most_from 0 later (rule ∷ rules) ≡ max (label_count rule.text) (most_from 0 later rules) = omega (arith, from_step 0 later rule rules true after, from_start (max 0 (label_count rule.text)) later rules) in
    later_by (list_any here rules) count (label_count rule.text) (most_from 0 fits rules) (most_from 0 fits (rule ∷ rules)) (most_from 0 later rules) (most_from 0 later (rule ∷ rules)) (parts.fewer rule good after) more longest others
    ∙ sym (ap (λ b. cond (b || list_any here rules) count (most_from 0 later (rule ∷ rules))) no))
    (λ before.
    let fit : fits rule ≡ false = parts.splits rule good ∙ ap (λ b. b || later rule) no ∙ before in
    none_by (list_any here rules) count (most_from 0 fits rules) (most_from 0 fits (rule ∷ rules)) (most_from 0 later rules) (most_from 0 later (rule ∷ rules)) more (from_step 0 fits rule rules false fit) (from_step 0 later rule rules false before)
    ∙ sym (ap (λ b. cond (b || list_any here rules) count (most_from 0 later (rule ∷ rules))) no))
    (cases_Bool (later rule)))
    (cases_Bool (here rule))

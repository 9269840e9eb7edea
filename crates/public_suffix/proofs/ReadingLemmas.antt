-- Reading a list of rules line by line.
use Rattle.std.proofs.Common.{◌≡◌, ℕ, ◌+◌, ◌<◌, Bool, true, false, not, ◌&&◌, cond, List, [], ◌∷◌, ◌++◌, length, get_or, take, map, Option, Some, None, Ok, Err, refl, ap, sym, ◌∙◌, arith, below_more, ◌⊎◌, inl, inr, ⊎_elim}
use Rattle.std.specs.List.{position, filter}
use Rattle.std.specs.Option.{option_to_list}
use Rattle.std.proofs.lemmas.Bool.Decides.{nat_tests}
use Rattle.std.proofs.lemmas.List.{take_more, get_or_default, map-append}
use Rattle.std.proofs.lemmas.List.Elements.{filter-append}
use Rattle.std.proofs.lemmas.List.Sums.{position_or_len_is}
use Rattle.public_suffix.specs.declared.refusal.RulesRefusal.{RulesRefusal}
use Rattle.public_suffix.specs.declared.refusal.RulesRefusal.TheVariants.{BadRule, NoMemory}
use Rattle.public_suffix.specs.RegistrableDomain.{SuffixRule}
use Rattle.public_suffix.specs.RuleLines.{has_rule, rule_of, is_bad, is_passed_over, is_rule}
use Rattle.public_suffix.specs.Reading.{lines, rules_on, reading, read_unless, line_number, line_reading}

-- none of the first n lines is bad
abbrev pub NoneBadBelow : List (List ℕ) → ℕ → Type 0
NoneBadBelow text_lines n = (k : ℕ) → k < n → is_bad (get_or text_lines k []) ≡ false

read_by : (line : List ℕ) (passed ruled : Bool) (number : ℕ) (result : Option SuffixRule) → cond passed (Ok None) (cond ruled (Ok (Some (rule_of line))) (Err (BadRule number))) ≡ Ok result → ((not passed && not ruled) ≡ false) × (map rule_of (cond (not passed && ruled) (line ∷ []) []) ≡ option_to_list result)
read_by line true ruled number result ok = let e : None ≡ result = cc in (refl, ap option_to_list e)
read_by line false true number result ok = let e : Some (rule_of line) ≡ result = cc in (refl, ap option_to_list e)
read_by line false false number result ok = absurd (let impossible : ⊥ = cc in impossible)

refused_by : (line : List ℕ) (passed ruled : Bool) (number : ℕ) (e : RulesRefusal) → cond passed (Ok None) (cond ruled (Ok (Some (rule_of line))) (Err (BadRule number))) ≡ Err e → ((not passed && not ruled) ≡ true) × (e ≡ BadRule number)
refused_by line true ruled number e bad = absurd (let impossible : ⊥ = cc in impossible)
refused_by line false true number e bad = absurd (let impossible : ⊥ = cc in impossible)
refused_by line false false number e bad = let same : e ≡ BadRule number = cc in (refl, same)

-- what a line that is read gives; such a line is not bad
pub read_line : (line : List ℕ) (number : ℕ) (result : Option SuffixRule) → line_reading line number ≡ Ok result → (is_bad line ≡ false) × (rules_on (line ∷ []) ≡ option_to_list result)
read_line line number result ok = read_by line (is_passed_over line) (is_rule (rule_of line)) number result ok

-- a line that is refused is bad
refused_line : (line : List ℕ) (number : ℕ) (e : RulesRefusal) → line_reading line number ≡ Err e → (is_bad line ≡ true) × (e ≡ BadRule number)
refused_line line number e bad = refused_by line (is_passed_over line) (is_rule (rule_of line)) number e bad

-- this line is the line at the index
pub record IsLineAt (text_lines : List (List ℕ)) (index : ℕ) (line : List ℕ) : Type 0 where
  pub within : index < length text_lines
  pub at : line ≡ get_or text_lines index line

line_there : (text_lines : List (List ℕ)) (index : ℕ) (line : List ℕ) → IsLineAt text_lines index line → line ≡ get_or text_lines index []
line_there text_lines index line there = there.at ∙ get_or_default text_lines index line [] there.within

-- the rules of the lines up to and with this one
pub rules_more : (text_lines : List (List ℕ)) (index : ℕ) (line : List ℕ) → IsLineAt text_lines index line → rules_on (take (index + 1) text_lines) ≡ rules_on (take index text_lines) ++ rules_on (line ∷ [])
rules_more text_lines index line there =
    ap rules_on (take_more text_lines index [] there.within)
    ∙ ap (λ last. rules_on (take index text_lines ++ last ∷ [])) (sym (line_there text_lines index line there))
    ∙ ap (λ kept. map rule_of kept) (filter-append has_rule (take index text_lines) (line ∷ []))
    ∙ map-append rule_of (filter has_rule (take index text_lines)) (filter has_rule (line ∷ []))

-- none of those lines is bad
pub none_bad_more : (text_lines : List (List ℕ)) (index : ℕ) (line : List ℕ) → IsLineAt text_lines index line → NoneBadBelow text_lines index → is_bad line ≡ false → NoneBadBelow text_lines (index + 1)
none_bad_more text_lines index line there none fine =
    below_more (λ k. is_bad (get_or text_lines k []) ≡ false) index none (ap is_bad (sym (line_there text_lines index line there)) ∙ fine)

position_at : (text_lines : List (List ℕ)) (index : ℕ) → index < length text_lines → NoneBadBelow text_lines index → is_bad (get_or text_lines index []) ≡ true → position is_bad text_lines ≡ Some index
position_at text_lines index within none bad =
    let first = position_or_len_is is_bad text_lines index [] (omega arith) none (λ _. bad) in
    grind (arith, nat_tests)

position_none : (text_lines : List (List ℕ)) → NoneBadBelow text_lines (length text_lines) → position is_bad text_lines ≡ None
position_none text_lines none =
    let first = position_or_len_is is_bad text_lines (length text_lines) [] (omega arith) none (λ short. absurd (omega arith)) in
    grind (arith, nat_tests)

-- the first bad line
reading_bad : (text : List ℕ) (index number : ℕ) (line : List ℕ) (e : RulesRefusal) → IsLineAt (lines text) index line → NoneBadBelow (lines text) index → number ≡ line_number index → line_reading line number ≡ Err e → reading text ≡ Err e
unfolding reading
reading_bad text index number line e there none is bad =
    let refused = refused_line line number e bad in
    let here = ap is_bad (sym (line_there (lines text) index line there)) ∙ refused.0 in
    ap (λ first. read_unless first (rules_on (lines text))) (position_at (lines text) index there.within none here)
    ∙ ap (λ n. Err (BadRule n)) (sym is) ∙ ap Err (sym refused.1)

-- what a line's refusal says of the whole text
pub refused_reading : (text : List ℕ) (index number : ℕ) (line : List ℕ) (e : RulesRefusal) → IsLineAt (lines text) index line → NoneBadBelow (lines text) index → number ≡ line_number index → (e ≡ NoMemory) ⊎ (line_reading line number ≡ Err e) → (e ≡ NoMemory) ⊎ (reading text ≡ Err e)
refused_reading text index number line e there none is why =
    ⊎_elim (λ memory. inl memory) (λ bad. inr (reading_bad text index number line e there none is bad)) why

-- no bad line
pub reading_good : (text : List ℕ) (rules : List SuffixRule) → NoneBadBelow (lines text) (length (lines text)) → rules ≡ rules_on (lines text) → reading text ≡ Ok rules
unfolding reading
reading_good text rules none is =
    ap (λ first. read_unless first (rules_on (lines text))) (position_none (lines text) none) ∙ ap Ok (sym is)

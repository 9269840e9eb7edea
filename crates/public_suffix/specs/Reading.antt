-- What a text says as a list of suffix rules: its rules in order, or its first bad line.
use Rattle.std.specs.Prelude.{◌≡◌, ℕ, ◌+◌, ◌==◌, ◌-◌, ◌^◌, min, List, map, filter, Option, Some, None, Result, Ok, Err, if◌then◌else◌}
use Rattle.std.specs.List.{slice_split, position}
use Rattle.call_answers.specs.Answers.{GivesUnless}
use Rattle.public_suffix.specs.declared.refusal.RulesRefusal.{RulesRefusal}
use Rattle.public_suffix.specs.declared.refusal.RulesRefusal.TheVariants.{BadRule, NoMemory}
use Rattle.public_suffix.specs.RegistrableDomain.{SuffixRule}
use Rattle.public_suffix.specs.RuleLines.{has_rule, rule_of, is_bad, is_rule, is_passed_over}

-- the lines of a text, which end at a line feed or at the end
abbrev pub lines : List ℕ → List (List ℕ)
lines text = slice_split (λ b. b == 10) text

-- the rules on these lines, in order
abbrev pub rules_on : List (List ℕ) → List SuffixRule
rules_on text_lines = map rule_of (filter has_rule text_lines)

-- the number by which a refusal names the line at an index: lines count from 1, and a number past the largest `u32` is told as that
abbrev pub line_number : ℕ → ℕ
line_number index = min (index + 1) (2 ^ 32 - 1)

abbrev pub read_unless : Option ℕ → List SuffixRule → Result (List SuffixRule) RulesRefusal
read_unless None rules = Ok rules
read_unless (Some index) rules = Err (BadRule (line_number index))

-- the rules of a text, unless a line is bad: then the first such line
unfoldable pub reading : List ℕ → Result (List SuffixRule) RulesRefusal
reading text = read_unless (position is_bad (lines text)) (rules_on (lines text))

-- a call answers this, but for want of memory
abbrev pub Gives : {T : Type 0} → Result T RulesRefusal → Result T RulesRefusal → Type 0
Gives result expected = GivesUnless NoMemory result expected

-- what one line with this number gives: nothing, a rule, or the refusal of the line
abbrev pub line_reading : List ℕ → ℕ → Result (Option SuffixRule) RulesRefusal
line_reading line number =
    if is_passed_over line then Ok None
    else (if is_rule (rule_of line) then Ok (Some (rule_of line)) else Err (BadRule number))

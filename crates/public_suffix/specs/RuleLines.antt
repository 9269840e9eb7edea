-- What a line of a list of suffix rules says, after the format of the Public Suffix List.
use Rattle.std.specs.Prelude.{ℕ, ◌==◌, Bool, not, ◌&&◌, ◌||◌, nat_lt, nat_le, nat_eq, List, length, drop, map, codes, bytes_eq, slice_index, if◌then◌else◌}
use Rattle.std.specs.List.{list_all, list_any, before_first, starts_with, enumerate_from}
use Rattle.std.specs.Char.{to_ascii_lowercase}
use Rattle.public_suffix.specs.Labels.{labels, label_count}
use Rattle.public_suffix.specs.RegistrableDomain.{SuffixRule}

-- a space, a tab or a carriage return
abbrev pub is_white_space : ℕ → Bool
is_white_space b = b == 32 || b == 9 || b == 13

-- the line up to its first white space
abbrev pub word_of : List ℕ → List ℕ
word_of line = before_first is_white_space line

-- a byte above 127
abbrev pub has_high_byte : List ℕ → Bool
has_high_byte word = list_any (λ b. nat_lt 127 b) word

-- a line that is no rule and no fault: a comment, an empty word, or a word with a byte above 127
unfoldable pub is_passed_over : List ℕ → Bool
is_passed_over line = starts_with nat_eq line (codes "//") || length (word_of line) == 0
    || has_high_byte (word_of line)

-- a letter in lower case, a digit, `-` or `_`
abbrev pub is_label_byte : ℕ → Bool
is_label_byte b = (nat_le 97 b && nat_le b 122) || (nat_le 48 b && nat_le b 57) || b == 45 || b == 95

-- 1 to 63 such bytes
abbrev pub is_name_label : List ℕ → Bool
is_name_label label = nat_le 1 (length label) && nat_le (length label) 63 && list_all is_label_byte label

-- a name, or `*` as the leftmost label of a rule that is no exception; the place counts from the left
abbrev pub is_rule_label : Bool → ℕ × List ℕ → Bool
is_rule_label exception place = is_name_label place.1 || (place.0 == 0 && not exception && bytes_eq place.1 (codes "*"))

-- each label of a text may stand in a rule
abbrev pub has_rule_labels : Bool → List ℕ → Bool
has_rule_labels exception text = list_all (is_rule_label exception) (enumerate_from 0 (labels text))

-- the form of a rule: such labels, two or more for an exception
unfoldable pub is_rule : SuffixRule → Bool
is_rule rule = has_rule_labels rule.exception rule.text && (not rule.exception || nat_le 2 (label_count rule.text))

-- a word that begins with `!` is an exception
abbrev pub is_exception : List ℕ → Bool
is_exception word = slice_index word 0 == 33

-- a word without the `!` of an exception
abbrev pub unmarked : List ℕ → List ℕ
unmarked word = if is_exception word then drop 1 word else word

-- the rule that a line spells, with its letters lowered
abbrev pub rule_of : List ℕ → SuffixRule
rule_of line = record {
  exception = is_exception (word_of line);
  text = map to_ascii_lowercase (unmarked (word_of line));
}

-- a line that gives a rule
abbrev pub has_rule : List ℕ → Bool
has_rule line = not (is_passed_over line) && is_rule (rule_of line)

-- a line that is neither passed over nor a rule
abbrev pub is_bad : List ℕ → Bool
is_bad line = not (is_passed_over line) && not (is_rule (rule_of line))

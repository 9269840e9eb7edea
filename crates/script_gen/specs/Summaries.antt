-- The summary of a history: how many entries and delivered bytes there are, and how often each rule is carried. Own format.
use Rattle.std.specs.Prelude.{◌==◌, ◌++◌, ◌∷◌, [], Bool, List, bytes_eq, codes, count_by, decimal, false, flat_map, if◌then◌else◌, length, sum_by, ℕ}
use Rattle.std.specs.Option.{option_map_or}
use Rattle.history_entry.specs.CarriedRules.{carried_rule}
use Rattle.history_entry.specs.RuleText.{all_rules, rule_text}
use Rattle.history_entry.specs.declared.entry.Entry.{Entry}
use Rattle.history_entry.specs.declared.entry.Entry.TheVariants.{Piece}
use Rattle.history_entry.specs.declared.rule.Rule.{Rule}

-- a line: a word and a number
unfoldable pub line : List ℕ → ℕ → List ℕ
line word number = word ++ 32 ∷ [] ++ decimal number ++ 10 ∷ []

-- the bytes that an entry delivers: those of its piece
abbrev pub delivered_by : Entry → ℕ
delivered_by (Piece request index bytes) = length bytes
delivered_by entry = 0

-- the entry carries this rule
unfoldable pub carries : Rule → Entry → Bool
carries rule entry = option_map_or (λ carried. bytes_eq (rule_text carried) (rule_text rule)) (carried_rule entry) false

-- the line of a rule that some entry carries, with how many do; of another rule nothing
unfoldable pub rule_line : List Entry → Rule → List ℕ
rule_line h rule = if count_by (carries rule) h == 0 then [] else line (rule_text rule) (count_by (carries rule) h)

-- the summary of a history
unfoldable pub summary_text : List Entry → List ℕ
summary_text h = line (codes "entries") (length h) ++ line (codes "delivered") (sum_by delivered_by h)
    ++ flat_map (rule_line h) all_rules

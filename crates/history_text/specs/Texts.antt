-- Which history a text is, under which policy, and which line of a text is the first that is bad. Own format.
use Rattle.std.specs.Prelude.{◌≡◌, ◌≢◌, ℕ, ◌+◌, ◌-◌, ◌^◌, ◌<◌, min, nat_eq, List, ◌++◌, length, Some, ⊤, if◌then◌else◌}
use Rattle.std.specs.List.{AllByRecursion, starts_with}
use Rattle.history_entry.specs.CarriedRules.{carried_rule}
use Rattle.history_entry.specs.declared.entry.Entry.{Entry}
use Rattle.history_entry.specs.declared.policy.Policy.{Policy}
use Rattle.history_entry.specs.declared.policy.Policy.TheVariants.{One, Two}
use Rattle.history_entry.specs.declared.rule.Rule.TheVariants.{B8}
use Rattle.entry_text.specs.Lines.{line_of}
use Rattle.entry_reading.specs.Entries.{IsEntry}
use Rattle.history_entries.specs.Text.{text_of, version_line}

-- the policy of a text: the second where it begins with the version line
abbrev pub policy_of : List ℕ → Policy
policy_of bytes = if starts_with nat_eq bytes version_line then Two else One

-- the number of the line that the first entry has
abbrev pub first_line : Policy → ℕ
first_line One = 1
first_line Two = 2

-- the number of the line behind those of so many entries. A line past 2^32 - 1 is told as 2^32 - 1
abbrev pub line_number : Policy → ℕ → ℕ
line_number policy entries = min (entries + first_line policy) (2 ^ 32 - 1)

-- the rule that an entry carries is one of the policy: B8 is none of the first
abbrev pub HasRuleOf : Policy → Entry → Type 0
HasRuleOf One e = carried_rule e ≢ Some B8
HasRuleOf Two e = ⊤

-- an entry, as its type keeps it, that a text of the policy may have
abbrev pub IsEntryOf : Policy → Entry → Type 0
IsEntryOf policy e = IsEntry e × HasRuleOf policy e

-- each entry is one that a text of the policy may have
abbrev pub AreEntriesOf : Policy → List Entry → Type 0
AreEntriesOf policy h = AllByRecursion (IsEntryOf policy) h

-- the bytes are the text of the history under the policy
abbrev pub IsTextOf : Policy → List ℕ → List Entry → Type 0
IsTextOf policy bytes h = AreEntriesOf policy h × (text_of policy h ≡ bytes)

-- the bytes begin with the line of no entry that a text of the policy may have, its line feed included
abbrev pub BeginsWithNoLineOf : Policy → List ℕ → Type 0
BeginsWithNoLineOf policy bytes = (e : Entry) (rest : List ℕ) → IsEntryOf policy e → line_of e ++ rest ≢ bytes

-- line n of a text of the policy, from 1, is the first bad one: those before it are the version line and the lines of entries, and it is
-- none. A line past 2^32 - 1 is told as 2^32 - 1
pub record IsFirstBadLine (policy : Policy) (bytes : List ℕ) (n : ℕ) : Type 0 where
  pub before : List Entry
  pub rest : List ℕ
  pub entries : AreEntriesOf policy before
  pub whole : text_of policy before ++ rest ≡ bytes
  pub some : 0 < length rest
  pub bad : BeginsWithNoLineOf policy rest
  pub number : n ≡ line_number policy (length before)

-- equal texts of histories under one policy are of equal histories
abbrev pub HaveOneText : Type 0
HaveOneText = (policy : Policy) (h g : List Entry) → AreEntriesOf policy h → AreEntriesOf policy g → text_of policy h ≡ text_of policy g → h ≡ g

-- a text is of one policy at most
abbrev pub HaveOnePolicy : Type 0
HaveOnePolicy = (p q : Policy) (h g : List Entry) → AreEntriesOf p h → AreEntriesOf q g → text_of p h ≡ text_of q g → p ≡ q

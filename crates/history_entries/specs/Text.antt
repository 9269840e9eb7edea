-- The text of a history: the lines of its entries, behind the version line under the second policy. Own format.
use Rattle.std.specs.Prelude.{List, [], ◌∷◌, ◌++◌, codes, flat_map, ℕ}
use Rattle.entry_text.specs.Lines.{line_of}
use Rattle.history_entry.specs.declared.entry.Entry.{Entry}
use Rattle.history_entry.specs.declared.policy.Policy.{Policy}
use Rattle.history_entry.specs.declared.policy.Policy.TheVariants.{One, Two}

-- the lines of the entries
unfoldable pub lines_of : List Entry → List ℕ
lines_of h = flat_map line_of h

-- the first line of a text of the second policy
abbrev pub version_line : List ℕ
version_line = codes "history 2" ++ 10 ∷ []

-- what stands before the lines of the entries
abbrev pub head_of : Policy → List ℕ
head_of One = []
head_of Two = version_line

-- the text of a history under a policy
unfoldable pub text_of : Policy → List Entry → List ℕ
text_of policy h = head_of policy ++ lines_of h

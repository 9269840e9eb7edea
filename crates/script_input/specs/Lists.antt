-- Lists, whose items are read one after another, each beside those before it.
use Rattle.std.specs.Prelude.{ℕ, ◌+◌, nat_le, List, [], ◌∷◌, ◌++◌, Ok, decimal, if◌then◌else◌}
use Rattle.std.specs.Option.{option_map_or}
use Rattle.serde_json.specs.Data.{Data, Items, no_items, item}
use Rattle.serde_json.specs.Find.{as_array}
use Rattle.script_input.specs.Checked.{Checked, ◌>>=◌, below, refuse, typed}
use Rattle.script_input.specs.Refusals.{past_limit}

-- how many items there are
abbrev pub item_count : Items → ℕ
item_count no_items = 0
item_count (item d ds) = item_count ds + 1

-- how many items a list has
abbrev pub count_of : Data → ℕ
count_of d = option_map_or item_count (as_array d) 0

-- those before, and each item in order, the first of them at this index
abbrev pub items_from : {A : Type 0} → (List A → Data → Checked A) → List A → ℕ → Items → Checked (List A)
items_from read before i no_items = Ok before
items_from read before i (item d ds) = do
  x ← below (decimal i) (read before d)
  items_from read (before ++ x ∷ []) (i + 1) ds

-- a list of at most so many items, else X6
unfoldable pub list_at : {A : Type 0} → (List A → Data → Checked A) → ℕ → Data → Checked (List A)
list_at read most d = do
  ds ← typed (as_array d)
  if nat_le (item_count ds) most then items_from read [] 0 ds else refuse past_limit

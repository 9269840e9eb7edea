-- Entries are kept, one by one.
use Rattle.std.specs.Prelude.{◌++◌, ◌∷◌, [], List}
use Rattle.std.specs.List.{AllByRecursion}
use Rattle.history_entry.specs.declared.entry.Entry.{Entry}
use Rattle.entry_reading.specs.Entries.{IsEntry}

pub entries_more : (h : List Entry) (e : Entry) → AllByRecursion IsEntry h → IsEntry e → AllByRecursion IsEntry (h ++ e ∷ [])
entries_more [] e kept is = (is, tt)
entries_more (x ∷ h) e kept is = (kept.0, entries_more h e kept.1 is)

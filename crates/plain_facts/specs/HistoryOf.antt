-- A script with a history of it.
use Rattle.std.specs.Prelude.{List}
use Rattle.history_entry.specs.declared.entry.Entry.{Entry}
use Rattle.script_model.specs.ScriptData.{ScriptData}

-- a script, and the entries of a history of it
pub record HistoryOf : Type 0 where
  pub script : ScriptData
  pub entries : List Entry

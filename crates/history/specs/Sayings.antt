-- What a document says next, before it is judged.
use Rattle.std.specs.Prelude.{if◌then◌else◌, List, None, Option, Some, option_and_then, ℕ}
use Rattle.history_entry.specs.declared.entry.Entry.{Entry}
use Rattle.history_entry.specs.declared.entry.Entry.TheVariants.{Said}
use Rattle.history_entry.specs.declared.reply.Reply.{Reply}
use Rattle.service_rule.specs.Services.{ServiceRule}
use Rattle.script_model.specs.ScriptData.{ScriptData}
use Rattle.history_rules.specs.Documents.{actions_done, is_current, process_of}
use Rattle.history_rules.specs.Judgement.{judge}
use Rattle.history_rules.specs.Processes.{is_locked}
use Rattle.history_rules.specs.Sights.{next_act}
use Rattle.history_rules.specs.declared.act.Act.{Act}
use Rattle.history_rules.specs.declared.act.Act.TheVariants.{Message as Sends}
use Rattle.history.specs.declared.documents.Saying.{Saying}

-- what the next action of a document says in a process
abbrev pub saying_of : List Entry → ℕ → ℕ → Act → Option Saying
saying_of h p d (Sends m) = Some (record { place = record { process = p; document = d; action = actions_done h d }; message = m })
saying_of h p d _ = None

-- what a document says next in its process, which is locked
unfoldable pub saying_in : ScriptData → List Entry → ℕ → ℕ → Option Saying
saying_in s h d p = if is_locked h p then saying_of h p d (next_act s h d) else None

-- what a current document says next
unfoldable pub saying_next : ScriptData → List Entry → ℕ → Option Saying
saying_next s h d = if is_current s h d then option_and_then (saying_in s h d) (process_of h d) else None

-- it with a reply, as an entry
abbrev pub answered : Saying → Reply → Entry
answered saying reply = Said saying.place.process saying.place.document saying.place.action saying.message reply

-- it with its judgement
abbrev pub judged : ServiceRule → ScriptData → List Entry → Saying → Entry
judged rule s h saying = answered saying (judge rule s h saying.place.process saying.message)

-- What a text spells. Printing (`entry_text`'s `Lines`) says how; nothing here speaks of reading.
use Rattle.std.specs.Prelude.{◌≡◌, ◌≢◌, ℕ, List, ◌++◌}
use Rattle.history_entry.specs.declared.body.Message.{Message}
use Rattle.history_entry.specs.declared.entry.Entry.{Entry}
use Rattle.history_entry.specs.declared.reply.Reply.{Reply}
use Rattle.entry_text.specs.Lines.{entry_text, line_of, message_text, reply_text}
use Rattle.entry_reading.specs.Entries.{IsEntry, IsMessage, IsReply}

-- the line, without its line feed, spells the entry
abbrev pub Spells : List ℕ → Entry → Type 0
Spells line e = IsEntry e × (entry_text e ≡ line)

-- the line spells no entry
abbrev pub SpellsNone : List ℕ → Type 0
SpellsNone line = (e : Entry) → IsEntry e → entry_text e ≢ line

-- the bytes begin with the line of no entry, its line feed included
abbrev pub BeginsWithNoLine : List ℕ → Type 0
BeginsWithNoLine bytes = (e : Entry) (rest : List ℕ) → IsEntry e → line_of e ++ rest ≢ bytes

-- the text spells the message
abbrev pub SpellsMessage : List ℕ → Message → Type 0
SpellsMessage text message = IsMessage message × (message_text message ≡ text)

-- the text spells no message
abbrev pub SpellsNoMessage : List ℕ → Type 0
SpellsNoMessage text = (message : Message) → IsMessage message → message_text message ≢ text

-- the text spells the reply
abbrev pub SpellsReply : List ℕ → Reply → Type 0
SpellsReply text reply = IsReply reply × (reply_text reply ≡ text)

-- the text spells no reply
abbrev pub SpellsNoReply : List ℕ → Type 0
SpellsNoReply text = (reply : Reply) → IsReply reply → reply_text reply ≢ text

-- an entry has one spelling: equal spellings are of equal entries
abbrev pub HaveOneSpelling : Type 0
HaveOneSpelling = (e f : Entry) → IsEntry e → IsEntry f → entry_text e ≡ entry_text f → e ≡ f

-- no line begins another: texts that begin with the lines of two entries are equal only where the entries are
abbrev pub NoLineBeginsAnother : Type 0
NoLineBeginsAnother = (e f : Entry) (u v : List ℕ) → IsEntry e → IsEntry f → line_of e ++ u ≡ line_of f ++ v → e ≡ f

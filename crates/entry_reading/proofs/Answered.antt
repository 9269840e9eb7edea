-- What is read is what is spelled: the answers of the public readers.
use Rattle.std.proofs.Common.{◌≡◌, ◌⊎◌, ℕ, List, [], Some, None, Ok, Err, refl, sym, ap, ◌∙◌, inl, inr, append-nil}
use Rattle.std.specs.Prelude.{Result}
use Rattle.std.proofs.lemmas.Option.{same_Some}
use Rattle.history_entry.specs.declared.body.Message.{Message}
use Rattle.history_entry.specs.declared.entry.Entry.{Entry}
use Rattle.history_entry.specs.declared.reply.Reply.{Reply}
use Rattle.entry_text.specs.Lines.{message_text, reply_text}
use Rattle.entry_reading.specs.declared.stop.EntryStop.{EntryStop}
use Rattle.entry_reading.specs.declared.stop.EntryStop.TheVariants.{BadLine, NoMemory}
use Rattle.entry_reading.specs.declared.stop.MessageStop.{MessageStop}
use Rattle.entry_reading.specs.declared.stop.MessageStop.TheVariants.{NoMemory as NoRoomForMessage}
use Rattle.entry_reading.specs.declared.stop.ReplyStop.{ReplyStop}
use Rattle.entry_reading.specs.declared.stop.ReplyStop.TheVariants.{NoMemory as NoRoomForReply}
use Rattle.entry_reading.specs.Answers.{Gives}
use Rattle.entry_reading.specs.Bodies.{message, reply}
use Rattle.entry_reading.specs.Entries.{IsEntry, IsMessage, IsReply}
use Rattle.entry_reading.specs.Fields.{whole}
use Rattle.entry_reading.specs.Reading.{entry_of}
use Rattle.entry_reading.specs.Spellings.{Spells, SpellsMessage, SpellsNoMessage, SpellsNoReply, SpellsNone, SpellsReply}
use Rattle.entry_reading.proofs.BodiesBack.{message_again, reply_last}
use Rattle.entry_reading.proofs.LinesBack.{entry_back, one_spelling}
use Rattle.entry_reading.proofs.LinesSpelled.{entry_is, message_is, reply_is}

message_last : (m : Message) → IsMessage m → message (message_text m) ≡ Some (m, [])
unfolding message_text
message_last m valid = rw append-nil at (message_again m valid [] refl)

message_back : (m : Message) → IsMessage m → whole (message (message_text m)) ≡ Some m
message_back m valid = ap (λ read. whole read) (message_last m valid)

reply_back : (r : Reply) → IsReply r → whole (reply (reply_text r)) ≡ Some r
reply_back r valid = ap (λ read. whole read) (reply_last r valid)

-- no text that is read as nothing is a spelling
pub unread : (text : List ℕ) → entry_of text ≡ None → SpellsNone text
unread text nothing e valid is = let back = entry_back e valid in let reads = ap entry_of is in cc

-- no entry, for this reason
abbrev pub no_entry : EntryStop → Result Entry EntryStop
no_entry stop = Err stop

-- a reader that stops does so at a line that is no spelling, or for want of memory
pub stopped_bad : (text : List ℕ) (stop : EntryStop) → Gives (no_entry stop) (entry_of text) → no_entry stop ≡ Err BadLine → SpellsNone text
stopped_bad text BadLine nothing is = unread text nothing
stopped_bad text NoMemory nothing is = absurd (cc)

pub stopped_back : (text : List ℕ) (stop : EntryStop) → Gives (no_entry stop) (entry_of text) → (e : Entry) → Spells text e → (no_entry stop ≡ Ok e) ⊎ (no_entry stop ≡ Err NoMemory)
stopped_back text BadLine nothing e is = absurd (unread text nothing e is.0 is.1)
stopped_back text NoMemory nothing e is = inr refl

-- what is read is spelled there
pub entry_read : (text : List ℕ) (e : Entry) → IsEntry e → entry_of text ≡ Some e → Spells text e
entry_read text e valid is = (valid, entry_is text e is)

-- this entry
abbrev pub an_entry : Entry → Result Entry EntryStop
an_entry e = Ok e

-- what is read is the one entry that is spelled
pub entry_answered : (text : List ℕ) (found : Entry) → Spells text found → (e : Entry) → Spells text e → (an_entry found ≡ Ok e) ⊎ (an_entry found ≡ Err NoMemory)
entry_answered text found spelled e is = inl (ap an_entry (one_spelling found e spelled.0 is.0 (spelled.1 ∙ sym is.1)))

-- equal spellings are of equal values
pub one_message_spelling : (a b : Message) → IsMessage a → IsMessage b → message_text a ≡ message_text b → a ≡ b
one_message_spelling a b valid other same = same_Some a b (sym (message_back a valid) ∙ ap (λ t. whole (message t)) same ∙ message_back b other)

-- no text that is read as nothing is a spelling
pub message_unread : (text : List ℕ) → whole (message text) ≡ None → SpellsNoMessage text
message_unread text nothing e valid is = let back = message_back e valid in let reads = ap (λ t. whole (message t)) is in cc

-- what is read is spelled there
pub message_read : (text : List ℕ) (m : Message) → IsMessage m → whole (message text) ≡ Some m → SpellsMessage text m
message_read text m valid is = (valid, message_is text m is)

-- this message
abbrev pub a_message : Message → Result Message MessageStop
a_message m = Ok m

-- what is read is the one message that is spelled
pub message_answered : (text : List ℕ) (found : Message) → SpellsMessage text found → (m : Message) → SpellsMessage text m → (a_message found ≡ Ok m) ⊎ (a_message found ≡ Err NoRoomForMessage)
message_answered text found spelled m is = inl (ap a_message (one_message_spelling found m spelled.0 is.0 (spelled.1 ∙ sym is.1)))

-- equal spellings are of equal values
pub one_reply_spelling : (a b : Reply) → IsReply a → IsReply b → reply_text a ≡ reply_text b → a ≡ b
one_reply_spelling a b valid other same = same_Some a b (sym (reply_back a valid) ∙ ap (λ t. whole (reply t)) same ∙ reply_back b other)

-- no text that is read as nothing is a spelling
pub reply_unread : (text : List ℕ) → whole (reply text) ≡ None → SpellsNoReply text
reply_unread text nothing e valid is = let back = reply_back e valid in let reads = ap (λ t. whole (reply t)) is in cc

-- what is read is spelled there
pub reply_read : (text : List ℕ) (r : Reply) → IsReply r → whole (reply text) ≡ Some r → SpellsReply text r
reply_read text r valid is = (valid, reply_is text r is)

-- this reply
abbrev pub a_reply : Reply → Result Reply ReplyStop
a_reply r = Ok r

-- what is read is the one reply that is spelled
pub reply_answered : (text : List ℕ) (found : Reply) → SpellsReply text found → (r : Reply) → SpellsReply text r → (a_reply found ≡ Ok r) ⊎ (a_reply found ≡ Err NoRoomForReply)
reply_answered text found spelled r is = inl (ap a_reply (one_reply_spelling found r spelled.0 is.0 (spelled.1 ∙ sym is.1)))

-- The line that tells of an audit, and the first words of the lines of entries. Own format.
use Rattle.std.specs.Prelude.{◌≡◌, ◌++◌, ◌∷◌, [], List, codes, decimal, ℕ}
use Rattle.history_entry.specs.Kinds.{kind_of}
use Rattle.history_entry.specs.declared.entry.Entry.{Entry}
use Rattle.history_entry.specs.declared.entry.EntryKind.{EntryKind}
use Rattle.history_entry.specs.declared.entry.EntryKind.TheVariants.{Opened, Warm, Hop, Order, NavEnd, Said, Crash, Commit, Local, Head, Piece, End, Exit}
use Rattle.entry_text.specs.Lines.{line_of}
use Rattle.audit_run.specs.declared.answer.Audit.{Audit}
use Rattle.audit_run.specs.declared.answer.Audit.TheVariants.{BadLine, Entry as BadEntry, Legal, Unfinished}

-- the first word of the lines of a kind of entry
abbrev pub word_of : EntryKind → List ℕ
word_of Opened = codes "open"
word_of Warm = codes "warm"
word_of Hop = codes "hop"
word_of Order = codes "order"
word_of NavEnd = codes "navend"
word_of Said = codes "said"
word_of Crash = codes "crash"
word_of Commit = codes "commit"
word_of Local = codes "local"
word_of Head = codes "head"
word_of Piece = codes "piece"
word_of End = codes "end"
word_of Exit = codes "exit"

-- the text begins with a word and a space
abbrev pub BeginsWithWord : List ℕ → List ℕ → Type 0
BeginsWithWord word text = (rest : List ℕ) × (text ≡ word ++ codes " " ++ rest)

-- each entry's line begins with the word of its kind
abbrev pub LinesBeginWithWords : Type 0
LinesBeginWithWords = (e : Entry) → BeginsWithWord (word_of (kind_of e)) (line_of e)

-- what is told of an audit, without the line feed
abbrev pub audit_text : Audit → List ℕ
audit_text (Legal count) = codes "legal " ++ decimal count
audit_text (BadLine line) = codes "bad line " ++ decimal line
audit_text (BadEntry line) = codes "illegal line " ++ decimal line
audit_text (Unfinished kind) = codes "unfinished " ++ word_of kind

-- the line that tells of an audit
unfoldable pub line_of_audit : Audit → List ℕ
line_of_audit audit = audit_text audit ++ 10 ∷ []

-- The line of each entry begins with the word of its kind.
use Rattle.std.proofs.Common.{◌+◌, drop, length, refl}
use Rattle.std.specs.Prelude.{List, ℕ}
use Rattle.history_entry.specs.Kinds.{kind_of}
use Rattle.history_entry.specs.declared.entry.Entry.{Entry}
use Rattle.history_entry.specs.declared.entry.Entry.TheVariants.{Commit, Crash, End, Exit, Head, Hop, Local, NavEnd, Opened, Order, Piece, Said, Warm}
use Rattle.entry_text.specs.Lines.{entry_text, line_of}
use Rattle.audit_run.specs.AuditLines.{LinesBeginWithWords, word_of}

-- what stands behind the word and its space
abbrev behind_word : Entry → List ℕ
behind_word e = drop (length (word_of (kind_of e)) + 1) (line_of e)

pub begins_with_word : LinesBeginWithWords
unfolding entry_text line_of
begins_with_word (Opened k) = (behind_word (Opened k), refl)
begins_with_word (Warm p) = (behind_word (Warm p), refl)
begins_with_word (Hop of url) = (behind_word (Hop of url), refl)
begins_with_word (Order n p site origin url) = (behind_word (Order n p site origin url), refl)
begins_with_word (NavEnd n rule) = (behind_word (NavEnd n rule), refl)
begins_with_word (Said p d k message reply) = (behind_word (Said p d k message reply), refl)
begins_with_word (Crash p) = (behind_word (Crash p), refl)
begins_with_word (Commit p n origin url reply) = (behind_word (Commit p n origin url reply), refl)
begins_with_word (Local p d k what) = (behind_word (Local p d k what), refl)
begins_with_word (Head r rule) = (behind_word (Head r rule), refl)
begins_with_word (Piece r i bytes) = (behind_word (Piece r i bytes), refl)
begins_with_word (End r how) = (behind_word (End r how), refl)
begins_with_word (Exit p) = (behind_word (Exit p), refl)

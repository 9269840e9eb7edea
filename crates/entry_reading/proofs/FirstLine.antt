-- The first line of a text.
use Rattle.std.proofs.Common.{◌≡◌, ℕ, Some, None, Err, List, [], ◌∷◌, ◌++◌, sym, ap, ◌∙◌, append_assoc}
use Rattle.std.specs.Prelude.{Result}
use Rattle.history_entry.specs.declared.entry.Entry.{Entry}
use Rattle.entry_text.specs.Lines.{entry_text, line_of}
use Rattle.entry_reading.specs.declared.stop.EntryStop.{EntryStop}
use Rattle.entry_reading.specs.declared.stop.EntryStop.TheVariants.{BadLine, NoMemory}
use Rattle.entry_reading.specs.Answers.{Gives}
use Rattle.entry_reading.specs.Fields.{before, onwards, past}
use Rattle.entry_reading.specs.Spellings.{BeginsWithNoLine, SpellsNone}
use Rattle.entry_reading.proofs.FieldsSpelled.{around_whole, past_is}
use Rattle.entry_reading.proofs.LinesBack.{before_feed, from_feed}

-- an entry's line, and what stands behind it
pub line_there : (e : Entry) (text line ending rest : List ℕ) → line ≡ before 10 text → ending ≡ onwards 10 text → past 10 ending ≡ Some rest → entry_text e ≡ line → line_of e ++ rest ≡ text
unfolding line_of
line_there e text line ending rest front back feed is =
    append_assoc (entry_text e) (10 ∷ []) rest
    ∙ ap (λ t. t ++ 10 ∷ rest) (is ∙ front)
    ∙ ap (λ t. before 10 text ++ t) (past_is 10 ending rest feed ∙ back)
    ∙ around_whole 10 text

-- a text whose first line is no spelling begins with no line
pub bad_start : (text line : List ℕ) → line ≡ before 10 text → SpellsNone line → BeginsWithNoLine text
bad_start text line front none e more valid is = none e valid (sym (before_feed e more valid) ∙ ap (before 10) is ∙ sym front)

-- nor does a text without a line feed
no_start : (text : List ℕ) → past 10 (onwards 10 text) ≡ None → BeginsWithNoLine text
no_start text none e more valid is =
    let feed : past 10 (onwards 10 text) ≡ Some more = ap (λ t. past 10 (onwards 10 t)) (sym is) ∙ ap (past 10) (from_feed e more valid) in
    cc

-- no text, for this reason
abbrev pub no_text : EntryStop → Result (List ℕ) EntryStop
no_text stop = Err stop

-- the same where the line feed was looked for, unless memory ran out
pub unfed : (text ending : List ℕ) (stop : EntryStop) → ending ≡ onwards 10 text → Gives (no_text stop) (past 10 ending) → no_text stop ≡ Err BadLine → BeginsWithNoLine text
unfed text ending BadLine back none is = no_start text (ap (past 10) (sym back) ∙ none)
unfed text ending NoMemory back none is = absurd (cc)

line_nonempty : (text rest : List ℕ) → text ++ 10 ∷ rest ≡ [] → ⊥
line_nonempty [] rest is = cc
line_nonempty (b ∷ text) rest is = cc

-- nothing begins with no line
pub nothing_begins : BeginsWithNoLine []
unfolding line_of
nothing_begins e rest valid is = line_nonempty (entry_text e) rest (sym (append_assoc (entry_text e) (10 ∷ []) rest) ∙ is)

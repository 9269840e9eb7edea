-- For the proof that reading inverts printing: what the readers of fields answer.
use Rattle.std.specs.Prelude.{◌≡◌, List, ℕ, Option, Some, None, Result, Ok, Err, ⊤}
use Rattle.hex.specs.declared.error.FromHexError.{FromHexError}
use Rattle.hex.specs.declared.error.FromHexError.TheVariants.{OutOfMemory}
use Rattle.page_origin.specs.declared.text_bytes.TextRefusal.{TextRefusal}
use Rattle.page_origin.specs.declared.text_bytes.TextRefusal.TheVariants.{BadText, NoMemory as NoRoom}
use Rattle.entry_reading.specs.declared.stop.EntryStop.{EntryStop}
use Rattle.entry_reading.specs.declared.stop.EntryStop.TheVariants.{BadLine, NoMemory}

-- the value that is read, and a bad line where there is none, unless memory ran out
abbrev pub GivesBy : {X A : Type 0} → (X → A) → Result X EntryStop → Option A → Type 0
GivesBy view (Ok x) read = read ≡ Some (view x)
GivesBy view (Err BadLine) read = read ≡ None
GivesBy view (Err NoMemory) read = ⊤

-- the same of a value that is seen as it is
abbrev pub Gives : {A : Type 0} → Result A EntryStop → Option A → Type 0
Gives result read = GivesBy (λ x. x) result read

-- the value that is read at the front of a text, and what is left of the text
abbrev pub TakesBy : {X A : Type 0} → (X → A) → Result X EntryStop → List ℕ → Option (A × List ℕ) → Type 0
TakesBy view (Ok x) rest read = read ≡ Some (view x, rest)
TakesBy view (Err BadLine) rest read = read ≡ None
TakesBy view (Err NoMemory) rest read = ⊤

-- the same of a value that is seen as it is
abbrev pub Takes : {A : Type 0} → Result A EntryStop → List ℕ → Option (A × List ℕ) → Type 0
Takes result rest read = TakesBy (λ x. x) result rest read

-- what stands behind a mark at the front of a text, for a step that gives no value
abbrev pub Passes : Result Unit EntryStop → List ℕ → Option (List ℕ) → Type 0
Passes (Ok x) rest left = left ≡ Some rest
Passes (Err BadLine) rest left = left ≡ None
Passes (Err NoMemory) rest left = ⊤

-- a refused host or URL is a bad line, unless memory ran out
abbrev pub stop_of_refusal : TextRefusal → EntryStop
stop_of_refusal BadText = BadLine
stop_of_refusal NoRoom = NoMemory

-- so are digits that write no bytes
abbrev pub stop_of_hex : FromHexError → EntryStop
stop_of_hex OutOfMemory = NoMemory
stop_of_hex error = BadLine

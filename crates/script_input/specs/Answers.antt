-- What a call answers beside what reading gives.
use Rattle.std.specs.Prelude.{◌≡◌, ⊤, Result, Ok, Err}
use Rattle.script_input.specs.declared.refusal.ScriptStop.{ScriptStop}
use Rattle.script_input.specs.declared.refusal.ScriptStop.TheVariants.{Refused, NoMemory}
use Rattle.script_input.specs.Checked.{Checked}

-- why a call gave nothing: memory ran out, or this is the first refusal
abbrev pub Stops : {A : Type 0} → ScriptStop → Checked A → Type 0
Stops NoMemory reading = ⊤
Stops (Refused r) reading = reading ≡ Err r

-- a call gives what reading gives, seen through a view, unless memory ran out
abbrev pub GivesBy : {X A : Type 0} → (X → A) → Result X ScriptStop → Checked A → Type 0
GivesBy view (Ok x) reading = reading ≡ Ok (view x)
GivesBy view (Err stop) reading = Stops stop reading

-- a call gives what reading gives, unless memory ran out
abbrev pub Gives : {A : Type 0} → Result A ScriptStop → Checked A → Type 0
Gives result reading = GivesBy (λ x. x) result reading

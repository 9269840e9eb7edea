-- Reading that ends at its first refusal.
use Rattle.std.specs.Prelude.{ℕ, List, Bool, Option, Some, None, Result, Ok, Err, if◌then◌else◌}
use Rattle.script_input.specs.declared.refusal.Refusal.{Refusal}
use Rattle.script_input.specs.Refusals.{refusal, behind, wrong_shape}

-- what a value is read as, or its first refusal
abbrev pub Checked : Type 0 → Type 0
Checked A = Result A Refusal

-- the value itself is refused
abbrev pub refuse : {A : Type 0} → ℕ → Checked A
refuse code = Err (refusal code)

-- one check after another: the first refusal stands
infixl 10 ◌>>=◌
abbrev pub ◌>>=◌ : {A B : Type 0} → Checked A → (A → Checked B) → Checked B
(Ok x) >>= f = f x
(Err r) >>= f = Err r

-- what is read one step further down
abbrev pub below : {A : Type 0} → List ℕ → Checked A → Checked A
below step (Ok x) = Ok x
below step (Err r) = Err (behind step r)

-- a value of the wanted type, else X2
abbrev pub typed : {A : Type 0} → Option A → Checked A
typed (Some x) = Ok x
typed None = refuse wrong_shape

-- this where a test holds, else a refusal by the code
abbrev pub check : {A : Type 0} → Bool → ℕ → A → Checked A
check holds code x = if holds then Ok x else refuse code

-- What calls answer that may run out of memory.
use Rattle.std.specs.Prelude.{◌≡◌, ◌⊎◌, MatchResult, Ok, Err, Result}

-- a call answers this, unless it answers that memory ran out
abbrev pub GivesUnless : {T E : Type 0} → E → Result T E → Result T E → Type 0
GivesUnless no_memory result expected = MatchResult result (λ x. expected ≡ Ok x) (λ e. (e ≡ no_memory) ⊎ (expected ≡ Err e))

-- Cuts that rise between two places. Own format.
use Rattle.std.specs.Prelude.{◌<◌, ◌∷◌, [], List, filter, nat_lt, ⊤, ℕ}

-- each is above the one before it, the first above `from`, the last below `end`
abbrev pub IsCutFrom : ℕ → ℕ → List ℕ → Type 0
IsCutFrom from end [] = ⊤
IsCutFrom from end (c ∷ cuts) = (from < c) × (c < end) × IsCutFrom c end cuts

-- the cuts below the end of what is sent
abbrev pub cuts_below : ℕ → List ℕ → List ℕ
cuts_below end cuts = filter (λ c. nat_lt c end) cuts

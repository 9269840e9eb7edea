-- The pieces of a wire that carries a body: where it is cut, and what it carries where it fails.
use Rattle.std.specs.Prelude.{◌<◌, ◌-◌, ◌==◌, ◌∷◌, [], if◌then◌else◌, Bool, List, Option, ⊤, drop, filter, length, nat_lt, take, ℕ}
use Rattle.std.specs.Option.{option_map_or}

-- a wire that carries a body: the pieces still to come, whether it fails after them, the count of faults
pub record ScriptedWire : Type 0 where
  pub left : List (List ℕ)
  pub fails : Bool
  pub faults : ℕ

-- each cut is above the one before it, the first above `from`, the last below `end`
abbrev pub IsCutFrom : ℕ → ℕ → List ℕ → Type 0
IsCutFrom from end [] = ⊤
IsCutFrom from end (c ∷ cuts) = (from < c) × (c < end) × IsCutFrom c end cuts

-- the bytes from place `from` of a body on, cut at these places of it
abbrev pub cut_at : ℕ → List ℕ → List ℕ → List (List ℕ)
cut_at from [] bytes = bytes ∷ []
cut_at from (c ∷ cuts) bytes = take (c - from) bytes ∷ cut_at c cuts (drop (c - from) bytes)

-- the same, but no bytes are no piece
abbrev pub pieces_from : ℕ → List ℕ → List ℕ → List (List ℕ)
pieces_from from cuts bytes = if length bytes == 0 then [] else cut_at from cuts bytes

-- the bytes that the wire carries: the body, or its first k where it fails after k
abbrev pub carried : List ℕ → Option ℕ → List ℕ
carried body fail_after = option_map_or (λ k. take k body) fail_after body

-- the cuts below the end of what is carried
abbrev pub cuts_below : ℕ → List ℕ → List ℕ
cuts_below end cuts = filter (λ c. nat_lt c end) cuts

-- the bytes that the wire carries, cut at the cuts below their end
abbrev pub pieces_of : List ℕ → List ℕ → Option ℕ → List (List ℕ)
pieces_of body cuts fail_after = pieces_from 0 (cuts_below (length (carried body fail_after)) cuts) (carried body fail_after)

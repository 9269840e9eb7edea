-- Histories as lists of entries: what a history begins with, and places in it.
use Rattle.std.specs.Prelude.{◌≡◌, ℕ, ◌+◌, ◌<◌, List, [], ◌∷◌, ◌++◌, All}
use Rattle.std.specs.List.Sorted.{IsStrictlyIncreasing}

module _ {E : Type 0} where
  -- the history begins with all that was seen
  abbrev pub StartsWith : List E → List E → Type 0
  StartsWith history seen = (later : List E) × (history ≡ seen ++ later)

  -- the history has one entry more
  abbrev pub AddsOne : List E → List E → Type 0
  AddsOne before after = (entry : E) × (after ≡ before ++ entry ∷ [])

-- these are places of a list of this length, and each is below the next
pub record ArePlaces (places : List ℕ) (length : ℕ) : Type 0 where
  pub increasing : IsStrictlyIncreasing places
  pub below : All (λ place. place < length) places

-- the numbers of the elements, added up
abbrev pub total : {A : Type 0} → (A → ℕ) → List A → ℕ
total number [] = 0
total number (x ∷ xs) = number x + total number xs

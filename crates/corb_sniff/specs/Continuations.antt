-- Lists that go on alike, and lists that nothing can help. The contracts of the states are stated in these words.
use Rattle.std.specs.Prelude.{◌≡◌, ℕ, Bool, false, List, ◌++◌}

-- whatever follows, both lists meet the grammar or neither does
abbrev pub AreAlike : (List ℕ → Bool) → List ℕ → List ℕ → Type 0
AreAlike meets a b = (more : List ℕ) → meets (a ++ more) ≡ meets (b ++ more)

-- nothing that could follow makes the list meet the grammar
abbrev pub IsHopeless : (List ℕ → Bool) → List ℕ → Type 0
IsHopeless meets list = (more : List ℕ) → meets (list ++ more) ≡ false

-- What a printer does to the bytes that it appends to, whatever it answers.
use Rattle.std.specs.Prelude.{◌≡◌, ◌++◌, List, ℕ}

-- the old bytes still stand in front
pub record GrowsTo (old new : List ℕ) : Type 0 where
  pub more : List ℕ
  pub whole : new ≡ old ++ more

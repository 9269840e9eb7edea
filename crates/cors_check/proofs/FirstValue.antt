-- There is a value where there is a first one.
use Rattle.std.proofs.Common.{◌≡◌, ℕ, List, [], ◌∷◌, arith, length, nat_lt, is_some}
use Rattle.std.specs.Prelude.{slice_get}

pub has_value : (values : List (List ℕ)) → nat_lt 0 (length values) ≡ is_some (slice_get values 0)
has_value [] = grind arith
has_value (v ∷ values) = grind arith

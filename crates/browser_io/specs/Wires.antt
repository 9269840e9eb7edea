-- What reads of a wire move, and how a wire ends. Pieces that are told are `Some`.
use Rattle.std.specs.Prelude.{◌≡◌, ◌∷◌, [], Bool, List, Option, Some, None, IfSome, ⊤, ℕ}
use Rattle.std.specs.Option.{is_some}

-- the first piece of those still to come was handed over
abbrev pub HandsOver : Option (List (List ℕ)) → Option (List (List ℕ)) → List ℕ → Type 0
HandsOver (Some old) (Some new) piece = old ≡ piece ∷ new
HandsOver (Some old) None piece = ⊥
HandsOver None new piece = ⊤

-- where the pieces are told, none is left, and the wire fails after them or does not
abbrev pub IsUsedUp : Option (List (List ℕ)) → Bool → Bool → Type 0
IsUsedUp left fails so = IfSome left (λ pieces. (pieces ≡ []) × (fails ≡ so))

-- the wire tells its pieces afterwards exactly where it told them before
abbrev pub KeepsTellingPieces : Option (List (List ℕ)) → Option (List (List ℕ)) → Type 0
KeepsTellingPieces old new = is_some new ≡ is_some old

-- What one read of a wire gave.
use Rattle.std.specs.Prelude.{◌≡◌, ◌∷◌, [], Bool, true, false, List, Option, ℕ}
use Rattle.browser_io.specs.Wires.{HandsOver, IsUsedUp}
use Rattle.loader.specs.declared.read.Read.{Read}
use Rattle.loader.specs.declared.read.Read.TheVariants.{Piece, End, Fault}

-- the pieces still to come before and after it, and whether the wire fails after them
abbrev pub Gave : Option (List (List ℕ)) → Option (List (List ℕ)) → Bool → Read → Type 0
Gave old new fails (Piece bytes) = HandsOver old new bytes
Gave old new fails End = IsUsedUp old fails false × (new ≡ old)
Gave old new fails Fault = IsUsedUp old fails true × (new ≡ old)

-- the pieces that came
abbrev pub came : Read → List (List ℕ)
came (Piece bytes) = bytes ∷ []
came End = []
came Fault = []

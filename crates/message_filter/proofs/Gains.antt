-- What a message adds to what the services keep, where it adds nothing.
use Rattle.std.proofs.Common.{ap, refl}
use Rattle.std.specs.Prelude.{◌≡◌, ◌++◌, ◌∷◌, [], if◌then◌else◌, Bool, List, false, true}
use Rattle.service_rule.specs.declared.service.Asked.{Asked}

append_nothing : (xs : List Asked) → xs ≡ xs ++ []
append_nothing [] = refl
append_nothing (x ∷ xs) = ap (λ ys. x ∷ ys) (append_nothing xs)

pub gains_nothing : (xs : List Asked) (t : Bool) → xs ≡ xs ++ (if t then [] else [])
gains_nothing xs true = append_nothing xs
gains_nothing xs false = append_nothing xs

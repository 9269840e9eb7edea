-- Beginnings of longer lists.
use Rattle.std.proofs.Common.{ap, arith, refl}
use Rattle.std.specs.Prelude.{◌≡◌, ◌≤◌, ◌++◌, ◌∷◌, [], List, length, suc, take, zero, ℕ}

pub take_none : {X : Type 0} (xs : List X) → take 0 xs ≡ []
take_none [] = refl
take_none (x ∷ xs) = refl

-- a beginning of a list is one of each that goes on from it
pub take_front : {X : Type 0} (xs more : List X) (i : ℕ) → i ≤ length xs → take i (xs ++ more) ≡ take i xs
take_front [] more zero le = take_none more
take_front [] more (suc i) le = absurd (omega (arith, le))
take_front (x ∷ xs) more zero le = refl
take_front (x ∷ xs) more (suc i) le = ap (λ ys. x ∷ ys) (take_front xs more i (omega (arith, le)))

-- so many entries as it has are all of it
pub take_all_of : {X : Type 0} (xs : List X) (i : ℕ) → length xs ≤ i → take i xs ≡ xs
take_all_of [] zero le = refl
take_all_of [] (suc i) le = refl
take_all_of (x ∷ xs) zero le = absurd (omega (arith, le))
take_all_of (x ∷ xs) (suc i) le = ap (λ ys. x ∷ ys) (take_all_of xs i (omega (arith, le)))

pub take_whole : {X : Type 0} (xs more : List X) → take (length xs) (xs ++ more) ≡ xs
take_whole [] more = take_none more
take_whole (x ∷ xs) more = ap (λ ys. x ∷ ys) (take_whole xs more)

pub take_twice : {X : Type 0} (xs later more : List X) → take (length xs) ((xs ++ later) ++ more) ≡ xs
take_twice [] later more = take_none (later ++ more)
take_twice (x ∷ xs) later more = ap (λ ys. x ∷ ys) (take_twice xs later more)

pub longer : {X : Type 0} (xs later more : List X) → length xs ≤ length ((xs ++ later) ++ more)
longer [] later more = omega arith
longer (x ∷ xs) later more = let less = longer xs later more in omega (arith, less)

-- One more letter of a body, and one more cut.
use Rattle.std.proofs.Common.{◌≡◌, ◌≤◌, ◌+◌, ◌-◌, ◌*◌, ℕ, List, [], ◌∷◌, ◌++◌, append_assoc, length, map, refl, arith}
use Rattle.std.specs.List.{range_with_len}
use Rattle.std.proofs.lemmas.List.FromFn.{map-range_with_len_more}
use Rattle.script_gen.specs.Generated.{letter}

pub no_letters : (place : ℕ) → map letter (range_with_len place (place - place)) ≡ []
no_letters place = let none : place - place ≡ 0 = omega arith in rw none refl

next_letter : (first place : ℕ) → first ≤ place → map letter (range_with_len first (place + 1 - first)) ≡ map letter (range_with_len first (place - first)) ++ letter place ∷ []
next_letter first place from =
    let more : place + 1 - first ≡ place - first + 1 = omega arith in
    rw more (map-range_with_len_more letter first (place - first) place (omega arith))

-- one more turn of the loop that pushes letters behind a front
pub one_more_letter : (front before after : List ℕ) (place byte : ℕ) → length front ≤ place → before ≡ front ++ map letter (range_with_len (length front) (place - length front)) → byte ≡ letter place → after ≡ before ++ byte ∷ [] → after ≡ front ++ map letter (range_with_len (length front) (place + 1 - length front))
one_more_letter front before after place byte from so_far is push =
    rw (next_letter (length front) place from, push, so_far, is) (append_assoc front (map letter (range_with_len (length front) (place - length front))) (letter place ∷ []))

pub next_cut : (piece : ℕ) → 1 ≤ piece → map (λ p. 256 * p) (range_with_len 1 (piece + 1 - 1)) ≡ map (λ p. 256 * p) (range_with_len 1 (piece - 1)) ++ 256 * piece ∷ []
next_cut piece from =
    let more : piece + 1 - 1 ≡ piece - 1 + 1 = omega arith in
    rw more (map-range_with_len_more (λ p. 256 * p) 1 (piece - 1) piece (omega arith))

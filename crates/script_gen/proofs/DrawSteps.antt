-- One more draw.
use Rattle.std.proofs.Common.{◌≡◌, ◌+◌, ◌/◌, ◌%◌, ◌^◌, ℕ, [], ◌∷◌, ◌++◌, length, refl, add-one, arith}
use Rattle.std.proofs.lemmas.List.FromFn.{length-map-range_with_len, map-range_with_len_more}
use Rattle.script_gen.specs.Draws.{draw, draws, moved, state_behind}

pub first_state : (number : ℕ) → state_behind number 0 ≡ number % 2 ^ 32
unfolding state_behind
first_state number = refl

pub next_state : (number count : ℕ) → state_behind number (count + 1) ≡ moved (state_behind number count)
unfolding state_behind
next_state number count = rw add-one refl

pub no_draws : (number : ℕ) → draws number 0 ≡ []
unfolding draws
no_draws number = refl

pub next_draw : (number count : ℕ) → draws number (count + 1) ≡ draws number count ++ state_behind number (count + 1) / 65536 ∷ []
unfolding draws
next_draw number count = map-range_with_len_more (draw number) 0 count count (omega arith)

pub draw_count : (number count : ℕ) → length (draws number count) ≡ count
unfolding draws
draw_count number count = length-map-range_with_len (draw number) 0 count

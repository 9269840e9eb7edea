-- The draws of a number: the high halves of the states of a linear congruential sequence, whose multiplier and increment are those
-- of `ranqd1` in Numerical Recipes, section 7.1. Own format.
use Rattle.std.specs.Prelude.{◌+◌, ◌*◌, ◌/◌, ◌%◌, ◌^◌, List, map, suc, zero, ℕ}
use Rattle.std.specs.List.{range_with_len}

-- the state behind a state
unfoldable pub moved : ℕ → ℕ
moved state = (state * 1664525 + 1013904223) % 2 ^ 32

-- the state of a number behind so many draws
unfoldable pub state_behind : ℕ → ℕ → ℕ
state_behind number zero = number % 2 ^ 32
state_behind number (suc count) = moved (state_behind number count)

-- the draw at a place, from 0
abbrev pub draw : ℕ → ℕ → ℕ
draw number place = state_behind number (place + 1) / 65536

-- the first draws of a number, so many
unfoldable pub draws : ℕ → ℕ → List ℕ
draws number count = map (draw number) (range_with_len 0 count)

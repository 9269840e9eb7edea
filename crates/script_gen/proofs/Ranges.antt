-- What holds of each number of a range.
use Rattle.std.proofs.Common.{◌≡◌, ◌<◌, ◌+◌, ℕ, Bool, true, List, [], ◌∷◌, ◌++◌, append_assoc, map, subst, sym, length, arith}
use Rattle.std.specs.Prelude.{All}
use Rattle.std.specs.List.{list_all, range_with_len}
use Rattle.std.proofs.lemmas.List.FromFn.{get_or-map-range_with_len, get_or-range_with_len, length-map-range_with_len, length-range_with_len, map-range_with_len_more}
use Rattle.std.proofs.lemmas.List.Sums.{AllPass-from_list_all}

-- a test that all pass is passed by each
pub at_range : {X : Type 0} (test : X → Bool) (f : ℕ → X) (n i : ℕ) → list_all test (map f (range_with_len 0 n)) ≡ true → i < n → test (f i) ≡ true
at_range test f n i all below =
    let within : i < length (map f (range_with_len 0 n)) = omega (arith, length-map-range_with_len f 0 n) in
    subst (λ x. test x ≡ true) (get_or-map-range_with_len f 0 n i i (f i) below (omega arith)) (AllPass-from_list_all test (map f (range_with_len 0 n)) all i (f i) within)

-- what holds of each number below n holds of all numbers of their range
pub all_range : (P : ℕ → Type 0) (n : ℕ) → ((i : ℕ) → i < n → P i) → All P (range_with_len 0 n)
all_range P n each = λ k d within.
    let below : k < n = omega (arith, within, length-range_with_len 0 n) in
    subst P (sym (get_or-range_with_len 0 n k d below)) (each (0 + k) (omega arith))

-- one number more
pub map_more : {X : Type 0} (f : ℕ → X) (n : ℕ) → map f (range_with_len 0 (n + 1)) ≡ map f (range_with_len 0 n) ++ f n ∷ []
map_more f n = map-range_with_len_more f 0 n n (omega arith)

-- one more turn of a loop that pushes what f gives at each number
pub pushed : {X : Type 0} (base before after : List X) (f : ℕ → X) (n : ℕ) (x : X) → before ≡ base ++ map f (range_with_len 0 n) → x ≡ f n → after ≡ before ++ x ∷ [] → after ≡ base ++ map f (range_with_len 0 (n + 1))
pushed base before after f n x so_far is push = rw (map_more f n, push, so_far, is) (append_assoc base (map f (range_with_len 0 n)) (f n ∷ []))

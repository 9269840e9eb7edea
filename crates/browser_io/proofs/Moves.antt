-- What several reads or writes move together.
use Rattle.std.proofs.Common.{◌≡◌, ℕ, ◌+◌, ◌≤◌, List, ◌++◌, length, take, drop, Option, Some, None, ap, sym, ◌∙◌, append_assoc, length-append, arith}
use Rattle.std.specs.Io.KnownBytes.{Appends, Consumes}
use Rattle.std.proofs.Math.Seq.{take-add}
use Rattle.std.proofs.lemmas.List.{take-append-drop, drop-drop, length-take, length-take-le}
use Rattle.browser_io.specs.Moved.{TakesAtMost, TakesExactly}

-- two takings, one after the other, are one
pub Consumes-append : (a b c : Option (List ℕ)) (xs ys : List ℕ) → Consumes a b xs → Consumes b c ys → Consumes a c (xs ++ ys)
Consumes-append None b c xs ys first second = tt
Consumes-append (Some x) None c xs ys first second = absurd first
Consumes-append (Some x) (Some y) None xs ys first second = absurd second
Consumes-append (Some x) (Some y) (Some z) xs ys first second = first ∙ ap (λ w. xs ++ w) second ∙ sym (append_assoc xs ys z)

-- a read of at most n bytes after others
pub takes_at_most : (a b c : Option (List ℕ)) (all buf : List ℕ) (count n : ℕ) → Consumes a b all → Consumes b c (take count buf) → length all + count ≤ n → TakesAtMost a c n
takes_at_most a b c all buf count n first second few =
    (all ++ take count buf, Consumes-append a b c all (take count buf) first second, omega (arith, length-append all (take count buf), length-take count buf))

-- a read of as many bytes as n still has room for
pub takes_exactly : (a b c : Option (List ℕ)) (all buf : List ℕ) (count n : ℕ) → Consumes a b all → Consumes b c (take count buf) → count ≤ length buf → length all + count ≡ n → TakesExactly a c n
takes_exactly a b c all buf count n first second within is =
    (all ++ take count buf, Consumes-append a b c all (take count buf) first second, omega (arith, length-append all (take count buf), length-take-le count buf within))

-- the first s bytes, and then the first n of the rest, are the first s + n
pub Appends-take : (a b c : Option (List ℕ)) (xs rest : List ℕ) (s n : ℕ) → Appends a b (take s xs) → rest ≡ drop s xs → Appends b c (take n rest) → Appends a c (take (s + n) xs)
Appends-take None b c xs rest s n first is second = tt
Appends-take (Some x) None c xs rest s n first is second = absurd first
Appends-take (Some x) (Some y) None xs rest s n first is second = absurd second
Appends-take (Some x) (Some y) (Some z) xs rest s n first is second =
    second ∙ ap (λ w. w ++ take n rest) first ∙ append_assoc x (take s xs) (take n rest) ∙ ap (λ w. x ++ w) (ap (λ w. take s xs ++ take n w) is ∙ sym (take-add s n xs))

-- a buffer that begins with the next n bytes of a list
pub handed_over : (bytes rest buf : List ℕ) (at n : ℕ) → rest ≡ drop at bytes → take n buf ≡ take n rest → drop at bytes ≡ take n buf ++ drop (at + n) bytes
handed_over bytes rest buf at n is given =
    sym (ap (λ w. w ++ drop (at + n) bytes) (given ∙ ap (λ w. take n w) is) ∙ ap (λ w. take n (drop at bytes) ++ w) (sym (drop-drop n at bytes)) ∙ take-append-drop n (drop at bytes))

-- who takes n bytes had at least n: a caller whose input fits the limit meets no TooLarge
pub TakesExactly-le : (xs : List ℕ) (new : Option (List ℕ)) (n : ℕ) → TakesExactly (Some xs) new n → n ≤ length xs
TakesExactly-le xs None n (taken, gone, is) = absurd gone
TakesExactly-le xs (Some ys) n (taken, gone, is) = omega (arith, ap (λ w. length {A = ℕ} w) gone, length-append taken ys)

-- Whether a list has an element that passes a test, by the first place of one.
use Rattle.std.proofs.Common.{arith, refl}
use Rattle.std.specs.Prelude.{◌≡◌, ◌<◌, ◌∷◌, [], Bool, List, MatchOption, None, Option, Some, false, length, true, ℕ}
use Rattle.std.specs.List.{after_first, before_first, list_any, position_or_len}
use Rattle.service_rule.specs.Store.{is_blank_byte}
use denote.Ref.{Bor}

none_by : {X : Type 0} (p : X → Bool) (x : X) (xs : List X) → (position_or_len p xs ≡ length xs → list_any p xs ≡ false) → (b : Bool) → p x ≡ b → position_or_len p (x ∷ xs) ≡ length (x ∷ xs) → list_any p (x ∷ xs) ≡ false
none_by p x xs more true is e = absurd (grind arith)
none_by p x xs more false is e = let rest : position_or_len p xs ≡ length xs = grind arith in let none : list_any p xs ≡ false = more rest in cc

pub none_first : {X : Type 0} (p : X → Bool) (xs : List X) → position_or_len p xs ≡ length xs → list_any p xs ≡ false
none_first p [] e = refl
none_first p (x ∷ xs) e = none_by p x xs (λ f. none_first p xs f) (p x) refl e

some_by : {X : Type 0} (p : X → Bool) (x : X) (xs : List X) → (position_or_len p xs < length xs → list_any p xs ≡ true) → (b : Bool) → p x ≡ b → position_or_len p (x ∷ xs) < length (x ∷ xs) → list_any p (x ∷ xs) ≡ true
some_by p x xs more true is lt = cc
some_by p x xs more false is lt = let rest : position_or_len p xs < length xs = grind arith in let some : list_any p xs ≡ true = more rest in cc

pub some_first : {X : Type 0} (p : X → Bool) (xs : List X) → position_or_len p xs < length xs → list_any p xs ≡ true
some_first p [] lt = absurd (grind arith)
some_first p (x ∷ xs) lt = some_by p x xs (λ f. some_first p xs f) (p x) refl lt

-- what `split_once` at a blank says
pub by_first_blank : (text : List ℕ) (r : Option (Bor (List ℕ) × Bor (List ℕ))) → MatchOption r (position_or_len is_blank_byte text ≡ length text) (λ x. (position_or_len is_blank_byte text < length text) × (x.0.now ≡ before_first is_blank_byte text) × (x.1.now ≡ after_first is_blank_byte text))
    → MatchOption r (list_any is_blank_byte text ≡ false) (λ x. (list_any is_blank_byte text ≡ true) × (x.0.now ≡ before_first is_blank_byte text) × (x.1.now ≡ after_first is_blank_byte text))
by_first_blank text None none = none_first is_blank_byte text none
by_first_blank text (Some x) some = (some_first is_blank_byte text some.0, some.1, some.2)

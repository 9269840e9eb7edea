-- Lists over ranges of numbers, one number longer.
use Rattle.std.proofs.Common.{◌≡◌, ℕ, ◌+◌, List, [], ◌∷◌, ◌++◌, Option, Some, None, refl, ap, ◌∙◌, arith, append_assoc}
use Rattle.std.specs.List.{filter_map, flat_map, range_with_len}
use Rattle.std.specs.Option.{option_to_list}
use Rattle.std.proofs.lemmas.List.Elements.{filter_map-append}
use Rattle.std.proofs.lemmas.Grind.{flat_map-append, common_steps}
use Rattle.plain_facts.proofs.Counts.{range_more}

one_more : {B : Type 0} (f : ℕ → Option B) (n : ℕ) → filter_map f (n ∷ []) ≡ option_to_list (f n)
one_more f n = elim (f n) as (λ o. Rattle.std.specs.List.cons_option o [] ≡ option_to_list o) [ None ↦ refl | Some x ↦ refl ]

pub filter_map_more : {B : Type 0} (f : ℕ → Option B) (n : ℕ) → filter_map f (range_with_len 0 (n + 1)) ≡ filter_map f (range_with_len 0 n) ++ option_to_list (f n)
filter_map_more f n = grind (arith, common_steps, range_more, one_more, filter_map-append)

pub flat_map_more : {B : Type 0} (f : ℕ → List B) (n : ℕ) → flat_map f (range_with_len 0 (n + 1)) ≡ flat_map f (range_with_len 0 n) ++ f n
flat_map_more f n = grind (arith, common_steps, range_more, flat_map-append)

-- one more turn of a loop that pushes what f gives at each number
pub pushed_some : {B : Type 0} (base before after : List B) (f : ℕ → Option B) (n : ℕ) (next : Option B) → before ≡ base ++ filter_map f (range_with_len 0 n) → next ≡ f n → after ≡ before ++ option_to_list next → after ≡ base ++ filter_map f (range_with_len 0 (n + 1))
pushed_some base before after f n next e g p =
    rw filter_map_more (p ∙ ap (λ o. before ++ option_to_list o) g ∙ ap (λ xs. xs ++ option_to_list (f n)) e ∙ append_assoc base (filter_map f (range_with_len 0 n)) (option_to_list (f n)))

-- the same where it pushes a list
pub pushed_all : {B : Type 0} (base before after : List B) (f : ℕ → List B) (n : ℕ) → before ≡ base ++ flat_map f (range_with_len 0 n) → after ≡ before ++ f n → after ≡ base ++ flat_map f (range_with_len 0 (n + 1))
pushed_all base before after f n e p =
    rw flat_map_more (p ∙ ap (λ xs. xs ++ f n) e ∙ append_assoc base (flat_map f (range_with_len 0 n)) (f n))

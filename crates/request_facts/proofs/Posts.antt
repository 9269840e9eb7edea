-- The posts at the places of a range, the first place taken off.
use Rattle.std.proofs.Common.{ap, ◌∙◌, refl, sym, arith}
use Rattle.std.specs.Prelude.{◌≡◌, ◌+◌, ◌-◌, ◌<◌, ◌∷◌, [], List, None, Option, Some, filter_map, slice_get, suc, zero, ℕ}
use Rattle.std.specs.List.{cons_option, range_with_len}
use Rattle.std.specs.Option.{option_map}

pub range_first : (i n : ℕ) → i < n → range_with_len i (n - i) ≡ i ∷ range_with_len (i + 1) (n - (i + 1))
range_first i n lt =
    let more : n - i ≡ suc (n - (i + 1)) = omega arith in
    ap (range_with_len i) more

given_first : {A : Type 0} (f : ℕ → Option A) (i n : ℕ) → i < n → filter_map f (range_with_len i (n - i)) ≡ cons_option (f i) (filter_map f (range_with_len (i + 1) (n - (i + 1))))
given_first f i n lt = ap (filter_map f) (range_first i n lt)

none_first : {A : Type 0} (o : Option A) (xs : List A) (left : ℕ) → o ≡ None → slice_get (cons_option o xs) left ≡ slice_get xs left
none_first None xs left is = refl
none_first (Some x) xs left is = absurd (cc)

some_first : {A : Type 0} (o : Option A) (x : A) (xs : List A) (left : ℕ) → o ≡ Some x → slice_get (cons_option o xs) (suc left) ≡ slice_get xs left
some_first None x xs left is = absurd (cc)
some_first (Some y) x xs left is = refl

this_first : {A : Type 0} (o : Option A) (x : A) (xs : List A) → o ≡ Some x → slice_get (cons_option o xs) 0 ≡ Some x
this_first None x xs is = absurd (cc)
this_first (Some y) x xs is = is

-- no post at the first place
pub passed : {A : Type 0} (f : ℕ → Option A) (i n left : ℕ) (wanted : Option A) → i < n → f i ≡ None
    → slice_get (filter_map f (range_with_len i (n - i))) left ≡ wanted → slice_get (filter_map f (range_with_len (i + 1) (n - (i + 1)))) left ≡ wanted
passed f i n left wanted lt is was =
    sym (none_first (f i) (filter_map f (range_with_len (i + 1) (n - (i + 1)))) left is) ∙ sym (ap (λ xs. slice_get xs left) (given_first f i n lt)) ∙ was

-- a post at the first place, and another one is looked for
pub counted : {A : Type 0} (f : ℕ → Option A) (i n left : ℕ) (x : A) (wanted : Option A) → i < n → f i ≡ Some x
    → slice_get (filter_map f (range_with_len i (n - i))) (suc left) ≡ wanted → slice_get (filter_map f (range_with_len (i + 1) (n - (i + 1)))) left ≡ wanted
counted f i n left x wanted lt is was =
    sym (some_first (f i) x (filter_map f (range_with_len (i + 1) (n - (i + 1)))) left is) ∙ sym (ap (λ xs. slice_get xs (suc left)) (given_first f i n lt)) ∙ was

-- this is the one
pub found : {A : Type 0} (f : ℕ → Option A) (i n : ℕ) (x : A) (wanted : Option A) → i < n → f i ≡ Some x
    → slice_get (filter_map f (range_with_len i (n - i))) 0 ≡ wanted → Some x ≡ wanted
found f i n x wanted lt is was =
    sym (this_first (f i) x (filter_map f (range_with_len (i + 1) (n - (i + 1)))) is) ∙ sym (ap (λ xs. slice_get xs 0) (given_first f i n lt)) ∙ was

-- there is none
pub over : {A : Type 0} (f : ℕ → Option A) (i n left : ℕ) (wanted : Option A) → n - i ≡ 0
    → slice_get (filter_map f (range_with_len i (n - i))) left ≡ wanted → None ≡ wanted
over f i n left wanted none was = sym (ap (λ m. slice_get (filter_map f (range_with_len i m)) left) none) ∙ was

module _ {A B : Type 0} (view : A → B) (f : ℕ → Option B) (i n left : ℕ) (wanted : Option B) (lt : i < n) where
  -- no post at this place
  pub post_passed : (o : Option A) → option_map view o ≡ f i → o ≡ None → (next : ℕ) → next ≡ left
      → slice_get (filter_map f (range_with_len i (n - i))) left ≡ wanted → slice_get (filter_map f (range_with_len (i + 1) (n - (i + 1)))) next ≡ wanted
  post_passed o given none next same was =
      ap (slice_get (filter_map f (range_with_len (i + 1) (n - (i + 1))))) same ∙ passed f i n left wanted lt (sym given ∙ ap (option_map view) none) was

  -- a post, and another one is looked for
  pub post_counted : (o : Option A) → option_map view o ≡ f i → (x : A) → o ≡ Some x → (next : ℕ) → left ≡ suc next
      → slice_get (filter_map f (range_with_len i (n - i))) left ≡ wanted → slice_get (filter_map f (range_with_len (i + 1) (n - (i + 1)))) next ≡ wanted
  post_counted o given x some next same was =
      counted f i n next (view x) wanted lt (sym given ∙ ap (option_map view) some) (sym (ap (slice_get (filter_map f (range_with_len i (n - i)))) same) ∙ was)

-- Whether all orders to a process are answered, entry by entry.
use Rattle.std.proofs.Common.{◌≡◌, ◌∙◌, List, [], ◌∷◌, Bool, true, false, ◌&&◌, Option, Some, None, refl, ap, sym}
use Rattle.std.specs.Prelude.{filter_map}
use Rattle.std.specs.List.{cons_option, list_all}

both_true : (b : Bool) → (b && true) ≡ b
both_true true = refl
both_true false = refl

all_first : {A : Type 0} (p : A → Bool) (o : Option A) (xs : List A) → list_all p (cons_option o xs) ≡ (list_all p (cons_option o []) && list_all p xs)
all_first p None xs = refl
all_first p (Some x) xs = ap (λ b. b && list_all p xs) (sym (both_true (p x)))

all_step : {A B : Type 0} (p : A → Bool) (f : B → Option A) (x : B) (xs : List B) → list_all (λ y. list_all p (filter_map f (y ∷ []))) xs ≡ list_all p (filter_map f xs) → list_all (λ y. list_all p (filter_map f (y ∷ []))) (x ∷ xs) ≡ list_all p (filter_map f (x ∷ xs))
all_step p f x xs rest = ap (λ b. list_all p (filter_map f (x ∷ [])) && b) rest ∙ sym (all_first p (f x) (filter_map f xs))

-- what holds of all that f gives holds of what f gives of each
pub all_given : {A B : Type 0} (p : A → Bool) (f : B → Option A) (xs : List B) → list_all (λ y. list_all p (filter_map f (y ∷ []))) xs ≡ list_all p (filter_map f xs)
all_given p f [] = refl
all_given p f (x ∷ xs) = all_step p f x xs (all_given p f xs)

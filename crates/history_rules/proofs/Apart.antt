-- Choices, options and lists taken apart.
use Rattle.std.proofs.Common.{refl, ◌∙◌, ap, inl, inr}
use Rattle.std.specs.Prelude.{◌≡◌, ◌⊎◌, ◌&&◌, ◌||◌, ◌∷◌, [], Bool, List, None, Option, Some, cond, false, is_some, not, option_and_then, suc, true, zero, ℕ}
use Rattle.std.specs.List.{list_any, slice_get}
use Rattle.std.specs.Option.{option_map, option_map_or, option_or}

pub and_left : (a b : Bool) → (a && b) ≡ true → a ≡ true
and_left true b e = refl
and_left false b e = absurd (cc)

pub and_right : (a b : Bool) → (a && b) ≡ true → b ≡ true
and_right true b e = e
and_right false b e = absurd (cc)

pub and_both : (a b : Bool) → a ≡ true → b ≡ true → (a && b) ≡ true
and_both true b e f = f
and_both false b e f = absurd (cc)

pub not_true : (a : Bool) → not a ≡ true → a ≡ false
not_true true e = absurd (cc)
not_true false e = refl

pub not_false : (a : Bool) → not a ≡ false → a ≡ true
not_false true e = refl
not_false false e = absurd (cc)

pub or_cases : (a b : Bool) → (a || b) ≡ true → (a ≡ true) ⊎ (b ≡ true)
or_cases true b e = inl refl
or_cases false b e = inr e

pub or_left : (a b : Bool) → a ≡ true → (a || b) ≡ true
or_left true b e = refl
or_left false b e = absurd (cc)

pub or_right : (a b : Bool) → b ≡ true → (a || b) ≡ true
or_right true b e = refl
or_right false b e = e

pub or_false : (a b : Bool) → (a || b) ≡ false → (a ≡ false) × (b ≡ false)
or_false true b e = absurd (cc)
or_false false b e = (refl, e)

pub true_or_false : (b : Bool) → (b ≡ true) ⊎ (b ≡ false)
true_or_false true = inl refl
true_or_false false = inr refl

pub not_both : (b : Bool) → b ≡ true → b ≡ false → ⊥
not_both b e f = cc

pub by_test : (P : Type 0) (b : Bool) → (b ≡ true → P) → (b ≡ false → P) → P
by_test P true holds fails = holds refl
by_test P false holds fails = fails refl

pub some_same : {A : Type 0} {x y : A} → Some x ≡ Some y → x ≡ y
some_same e = cc

-- from a choice by a test, what it was
pub from_cond : {A : Type 0} (b : Bool) (x : Option A) (y : A) → cond b x None ≡ Some y → (b ≡ true) × (x ≡ Some y)
from_cond true x y e = (refl, e)
from_cond false x y e = absurd (cc)

pub from_else : {A : Type 0} (b : Bool) (x : Option A) (y : A) → cond b None x ≡ Some y → (b ≡ false) × (x ≡ Some y)
from_else true x y e = absurd (cc)
from_else false x y e = (refl, e)

pub from_then : {A B : Type 0} (f : A → Option B) (o : Option A) (y : B) → option_and_then f o ≡ Some y → (x : A) × (o ≡ Some x) × (f x ≡ Some y)
from_then f None y e = absurd (cc)
from_then f (Some x) y e = (x, refl, e)

pub from_map : {A B : Type 0} (f : A → B) (o : Option A) (y : B) → option_map f o ≡ Some y → (x : A) × (o ≡ Some x) × (f x ≡ y)
from_map f None y e = absurd (cc)
from_map f (Some x) y e = (x, refl, cc)

pub from_map_or : {A : Type 0} (f : A → Bool) (o : Option A) → option_map_or f o false ≡ true → (x : A) × (o ≡ Some x) × (f x ≡ true)
from_map_or f None e = absurd (cc)
from_map_or f (Some x) e = (x, refl, e)

pub from_is_some : {A : Type 0} (o : Option A) → is_some o ≡ true → (x : A) × (o ≡ Some x)
from_is_some None e = absurd (cc)
from_is_some (Some x) e = (x, refl)

pub from_or : {A : Type 0} (o p : Option A) (y : A) → option_or o p ≡ Some y → (o ≡ Some y) ⊎ ((o ≡ None) × (p ≡ Some y))
from_or None p y e = inr (refl, e)
from_or (Some x) p y e = inl e

-- an element that passes
pub record Found {X : Type 0} (p : X → Bool) (xs : List X) : Type 0 where
  pub place : ℕ
  pub item : X
  pub here : slice_get xs place ≡ Some item
  pub passes : p item ≡ true

pub later_found : {X : Type 0} (p : X → Bool) (x : X) (xs : List X) → Found p xs → Found p (x ∷ xs)
later_found p x xs f = record { place = suc f.place; item = f.item; here = f.here; passes = f.passes }

found_by : {X : Type 0} (p : X → Bool) (x : X) (xs : List X) → (list_any p xs ≡ true → Found p xs) → (b : Bool) → p x ≡ b → (b || list_any p xs) ≡ true → Found p (x ∷ xs)
found_by p x xs more true is e = record { place = 0; item = x; here = refl; passes = is }
found_by p x xs more false is e = later_found p x xs (more e)

pub any_found : {X : Type 0} (p : X → Bool) (xs : List X) → list_any p xs ≡ true → Found p xs
any_found p [] e = absurd (cc)
any_found p (x ∷ xs) e = found_by p x xs (λ f. any_found p xs f) (p x) refl e

pub any_here : {X : Type 0} (p : X → Bool) (xs : List X) (i : ℕ) (x : X) → slice_get xs i ≡ Some x → p x ≡ true → list_any p xs ≡ true
any_here p [] i x at passes = absurd (cc)
any_here p (y ∷ ys) zero x at passes = let same : y ≡ x = cc in or_left (p y) (list_any p ys) (ap p same ∙ passes)
any_here p (y ∷ ys) (suc i) x at passes = or_right (p y) (list_any p ys) (any_here p ys i x at passes)

-- The first part of values that are joined is that of the first value.
use Rattle.std.proofs.Common.{◌≡◌, ℕ, ◌==◌, List, [], ◌∷◌, ◌++◌, refl, ap, ◌∙◌, Some, None, true, false, ⊎_elim, sym, eq-eqb}
use Rattle.std.specs.Prelude.{slice_get}
use Rattle.std.specs.List.{join_with_byte}
use Rattle.std.proofs.lemmas.Bool.{cases_Bool}
use Rattle.mime_kind.specs.Texts.{before}

before_here : (mark b : ℕ) (text : List ℕ) → (b == mark) ≡ true → before mark (b ∷ text) ≡ []
before_here mark b text same = rw same refl

before_there : (mark b : ℕ) (text : List ℕ) → (b == mark) ≡ false → before mark (b ∷ text) ≡ b ∷ before mark text
before_there mark b text other = rw other refl

before_append : (mark : ℕ) (text rest : List ℕ) → before mark (text ++ mark ∷ rest) ≡ before mark text
before_append mark [] rest = before_here mark mark rest (eq-eqb mark mark refl)
before_append mark (b ∷ text) rest =
    ⊎_elim
    (λ same. before_here mark b (text ++ mark ∷ rest) same ∙ sym (before_here mark b text same))
    (λ other. before_there mark b (text ++ mark ∷ rest) other ∙ ap (λ t. b ∷ t) (before_append mark text rest) ∙ sym (before_there mark b text other))
    (cases_Bool (b == mark))

-- the first part of joined values is that of the first value
pub before_joined : (mark : ℕ) (value : List ℕ) (values : List (List ℕ)) → before mark (join_with_byte mark (value ∷ values)) ≡ before mark value
before_joined mark value [] = refl
before_joined mark value (next ∷ values) = before_append mark value (join_with_byte mark (next ∷ values))

pub before_first_value : (mark : ℕ) (values : List (List ℕ)) (value : List ℕ) → slice_get values 0 ≡ Some value → before mark (join_with_byte mark values) ≡ before mark value
before_first_value mark [] value none = cc
before_first_value mark (v ∷ values) value some = let is : v ≡ value = cc in before_joined mark v values ∙ ap (before mark) is

pub no_values : (values : List (List ℕ)) → slice_get values 0 ≡ None → values ≡ []
no_values [] none = refl
no_values (v ∷ values) none = cc

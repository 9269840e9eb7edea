-- The text that the values of a header make when they are joined, read piece by piece.
use Rattle.std.proofs.Common.{◌≡◌, ◌≢◌, ℕ, List, [], ◌∷◌, ◌++◌, refl, ap, ◌∙◌, sym, ⊎_elim, eq-eqb, false, Option, Some, None, MatchOption, Bor}
use Rattle.std.specs.Prelude.{bytes_eq, codes}
use Rattle.std.proofs.lemmas.List.{append-nil, append_assoc, append_cancel_left}
use Rattle.std.proofs.lemmas.Bool.{cases_Bool}
use Rattle.std.proofs.lemmas.Slice.Eq.{bytes_eq-Decides}
use Rattle.mime_kind.specs.JoinedValues.{joined_values}

-- the values, each after a separator: this one before the first, `, ` before each other
abbrev pub listed : List ℕ → List (List ℕ) → List ℕ
listed separator [] = []
listed separator (v ∷ values) = separator ++ (v ++ listed (codes ", ") values)

later_is_listed : (v : List ℕ) (values : List (List ℕ)) → joined_values (v ∷ values) ≡ v ++ listed (codes ", ") values
later_is_listed v [] = sym (append-nil v)
later_is_listed v (w ∷ values) =
    append_assoc v (codes ", ") (joined_values (w ∷ values))
    ∙ ap (λ (rest : List ℕ). v ++ (codes ", " ++ rest)) (later_is_listed w values)

pub joined_is_listed : (values : List (List ℕ)) → joined_values values ≡ listed [] values
joined_is_listed [] = refl
joined_is_listed (v ∷ values) = later_is_listed v values

same_front : (front more tail : List ℕ) → bytes_eq (front ++ more) (front ++ tail) ≡ bytes_eq more tail
same_front [] more tail = refl
same_front (b ∷ front) more tail = rw (eq-eqb b b refl) (same_front front more tail)

-- what is left after a separator and then after a value is what is left after both
pub after_both : (text separator value middle : List ℕ) → text ≡ separator ++ middle
    → (r : Option (Bor (List ℕ)))
    → MatchOption r ((rest : List ℕ) → middle ≢ value ++ rest) (λ rest. middle ≡ value ++ rest.now)
    → MatchOption r ((rest : List ℕ) → text ≢ separator ++ (value ++ rest)) (λ rest. text ≡ separator ++ (value ++ rest.now))
after_both text separator value middle begins (Some rest) left = begins ∙ ap (λ (tail : List ℕ). separator ++ tail) left
after_both text separator value middle begins None none =
    λ rest is. none rest (append_cancel_left separator middle (value ++ rest) (sym begins ∙ is))

-- where a text begins with a separator and a value, the rest of it is compared with the rest of the values
pub goes_on : (separator v : List ℕ) (values : List (List ℕ)) (text rest : List ℕ) → text ≡ separator ++ (v ++ rest) → bytes_eq (listed separator (v ∷ values)) text ≡ bytes_eq (listed (codes ", ") values) rest
goes_on separator v values text rest is =
    let more : List ℕ = listed (codes ", ") values in
    rw is (same_front separator (v ++ more) (v ++ rest) ∙ same_front v more rest)

-- where a text does not begin so, it is not made of these values
pub breaks_off : (separator v : List ℕ) (values : List (List ℕ)) (text : List ℕ) → ((rest : List ℕ) → text ≢ separator ++ (v ++ rest)) → bytes_eq (listed separator (v ∷ values)) text ≡ false
breaks_off separator v values text other =
    ⊎_elim
    (λ same. absurd (other (listed (codes ", ") values) (sym ((bytes_eq-Decides (listed separator (v ∷ values)) text).0 same))))
    (λ differs. differs)
    (cases_Bool (bytes_eq (listed separator (v ∷ values)) text))

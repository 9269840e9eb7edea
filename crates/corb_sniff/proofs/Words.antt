-- A word in front of a list that goes on: the list and the word agree exactly where some continuation makes it stand there.
use Rattle.std.proofs.Common.{◌≡◌, ℕ, Bool, true, eqb, ◌&&◌, ◌⊎◌, inl, inr, List, [], ◌∷◌, ◌++◌, length, drop, map, refl, ap, sym, ◌∙◌, eq-eqb}
use Rattle.std.specs.List.{list_any}
use Rattle.std.specs.Char.{to_ascii_lowercase}
use Rattle.std.proofs.lemmas.Bool.{false≢true, eqb-true, and_parts, and_from, or_cases, or_left, or_right}
use Rattle.std.proofs.lemmas.List.{drop-map}
use Rattle.corb_sniff.specs.Fronts.{begins, agrees}

pub begins-self : (word : List ℕ) → begins word word ≡ true
begins-self [] = refl
begins-self (w ∷ word) = ap (λ x. x && begins word word) (eq-eqb w w refl) ∙ begins-self word

-- where a longer list begins with the word, the list agrees with it
pub agrees_before : (word list more : List ℕ) → begins word (list ++ more) ≡ true → agrees word list ≡ true
agrees_before [] list more h = refl
agrees_before (w ∷ word) [] more h = refl
agrees_before (w ∷ word) (b ∷ list) more h =
    let parts = and_parts _ (begins word (list ++ more)) h in
    and_from _ (agrees word list) parts.0 (agrees_before word list more parts.1)

-- what is left of the word makes the list begin with it
pub begins-agreed : (word list : List ℕ) → agrees word list ≡ true → begins word (list ++ drop (length list) word) ≡ true
begins-agreed [] list h = refl
begins-agreed (w ∷ word) [] h = begins-self (w ∷ word)
begins-agreed (w ∷ word) (b ∷ list) h =
    let parts = and_parts _ (agrees word list) h in
    and_from _ (begins word (list ++ drop (length list) word)) parts.0 (begins-agreed word list parts.1)

-- of two that agree one begins with the other
pub agrees_cases : (word list : List ℕ) → agrees word list ≡ true → (begins word list ≡ true) ⊎ (begins list word ≡ true)
agrees_cases [] list h = inl refl
agrees_cases (w ∷ word) [] h = inr refl
agrees_cases (w ∷ word) (b ∷ list) h =
    let parts = and_parts _ (agrees word list) h in
    elim (agrees_cases word list parts.1) [
      | inl whole ↦ inl (and_from (eqb b w) (begins word list) parts.0 whole)
      | inr part ↦ inr (and_from (eqb w b) (begins list word) (eq-eqb w b (sym (eqb-true b w parts.0))) part)
    ]

pub some_agrees : (words : List (List ℕ)) (list more : List ℕ) → list_any (λ word. begins word (list ++ more)) words ≡ true → list_any (λ word. agrees word list) words ≡ true
some_agrees [] list more h = h
some_agrees (word ∷ words) list more h =
    elim (or_cases _ _ h) [
      | inl here ↦ or_left _ _ (agrees_before word list more here)
      | inr there ↦ or_right _ _ (some_agrees words list more there)
    ]

-- the words have no capital letters
unfoldable pub AreLower : List (List ℕ) → Type 0
AreLower [] = Unit {0}
AreLower (word ∷ words) = (map to_ascii_lowercase word ≡ word) × AreLower words

-- a continuation without capital letters by which the list passes
pub record LowerWay (test : List ℕ → Bool) (list : List ℕ) : Type 0 where
  pub more : List ℕ
  pub lower : map to_ascii_lowercase more ≡ more
  pub holds : test (list ++ more) ≡ true

-- what is left of the word that agrees makes one of the words stand in front
pub some_begins : (words : List (List ℕ)) (list : List ℕ) → AreLower words → list_any (λ word. agrees word list) words ≡ true → LowerWay (λ l. list_any (λ word. begins word l) words) list
unfolding AreLower
some_begins [] list lower h = absurd (false≢true h)
some_begins (word ∷ words) list lower h =
    elim (or_cases _ _ h) [
      | inl here ↦ record {
        more = drop (length list) word;
        lower = sym (drop-map to_ascii_lowercase (length list) word) ∙ ap (drop (length list)) lower.0;
        holds = or_left _ _ (begins-agreed word list here);
      }
      | inr there ↦
          let way = some_begins words list lower.1 there in
          record { more = way.more; lower = way.lower; holds = or_right _ _ way.holds }
    ]

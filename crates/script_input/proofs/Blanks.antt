-- A text without the blanks at its ends.
use Rattle.std.proofs.Common.{◌≡◌, ℕ, Bool, true, false, not, ◌&&◌, List, [], ◌∷◌, ◌++◌, reverse, refl, sym, ap, ◌∙◌, subst, if◌then◌else◌}
use Rattle.std.specs.List.{list_all}
use Rattle.std.proofs.lemmas.List.{reverse-append, reverse-reverse}
use Rattle.mime_kind.specs.FieldText.{begins_blank, is_blank, is_field_byte, is_field_text}
use Rattle.mime_kind.specs.Texts.{stripped, without_front_blanks}

bare_step : (blank : Bool) (b : ℕ) (text : List ℕ) → is_blank b ≡ blank → begins_blank (without_front_blanks text) ≡ false → begins_blank (if blank then without_front_blanks text else b ∷ text) ≡ false
bare_step true b text is rest = rest
bare_step false b text is rest = is

-- no blank is left at the front
front_bare : (text : List ℕ) → begins_blank (without_front_blanks text) ≡ false
front_bare [] = refl
front_bare (b ∷ text) = bare_step (is_blank b) b text refl (front_bare text)

-- the blanks at the front
abbrev front_blanks : List ℕ → List ℕ
front_blanks [] = []
front_blanks (b ∷ text) = if is_blank b then b ∷ front_blanks text else []

split_step : (blank : Bool) (b : ℕ) (text : List ℕ) → text ≡ front_blanks text ++ without_front_blanks text → b ∷ text ≡ (if blank then b ∷ front_blanks text else []) ++ (if blank then without_front_blanks text else b ∷ text)
split_step true b text is = ap (λ t. b ∷ t) is
split_step false b text is = refl

front_split : (text : List ℕ) → text ≡ front_blanks text ++ without_front_blanks text
front_split [] = refl
front_split (b ∷ text) = split_step (is_blank b) b text (front_split text)

-- a list begins as what it begins with
bare_before : (front back : List ℕ) → begins_blank (front ++ back) ≡ false → begins_blank front ≡ false
bare_before [] back h = refl
bare_before (b ∷ front) back h = h

both_bare : (fields front back : Bool) → front ≡ false → back ≡ false → (fields && not front && not back) ≡ fields
both_bare true front back f b = rw (f, b) refl
both_bare false front back f b = refl

back_bare : (text : List ℕ) → begins_blank (reverse (stripped text)) ≡ false
back_bare text =
    let rest : List ℕ = without_front_blanks (reverse (without_front_blanks text)) in
    subst (λ (t : List ℕ). begins_blank t ≡ false) (sym (reverse-reverse rest)) (front_bare (reverse (without_front_blanks text)))

stays_bare : (text : List ℕ) → begins_blank (stripped text) ≡ false
stays_bare text =
    let rest : List ℕ = without_front_blanks text in
    let blanks : List ℕ = front_blanks (reverse rest) in
    let kept : List ℕ = without_front_blanks (reverse rest) in
    let split : rest ≡ reverse kept ++ reverse blanks = sym (reverse-reverse rest) ∙ ap reverse (front_split (reverse rest)) ∙ reverse-append blanks kept in
    bare_before (stripped text) (reverse blanks) (subst (λ (t : List ℕ). begins_blank t ≡ false) split (front_bare text))

-- a stripped text is a field's exactly if its bytes are
pub stripped_field : (text : List ℕ) → is_field_text (stripped text) ≡ list_all is_field_byte (stripped text)
stripped_field text = both_bare (list_all is_field_byte (stripped text)) (begins_blank (stripped text)) (begins_blank (reverse (stripped text))) (stays_bare text) (back_bare text)

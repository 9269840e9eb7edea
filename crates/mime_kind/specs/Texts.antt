-- Parts of a text, and texts that are compared without regard to ASCII case.
use Rattle.std.specs.Prelude.{ℕ, ◌-◌, Bool, ◌&&◌, ◌==◌, nat_le, List, [], ◌∷◌, length, map, drop, bytes_eq, reverse, if◌then◌else◌}
use Rattle.std.specs.Char.{to_ascii_lowercase}
use Rattle.mime_kind.specs.FieldText.{is_blank}

-- the text without the blanks at its front
abbrev pub without_front_blanks : List ℕ → List ℕ
without_front_blanks [] = []
without_front_blanks (b ∷ text) = if is_blank b then without_front_blanks text else b ∷ text

-- the text without the blanks at either end
abbrev pub stripped : List ℕ → List ℕ
stripped text = reverse (without_front_blanks (reverse (without_front_blanks text)))

-- the part before the first mark, or the whole text
abbrev pub before : ℕ → List ℕ → List ℕ
before mark [] = []
before mark (b ∷ text) = if b == mark then [] else b ∷ before mark text

-- the part after the first mark, or nothing
abbrev pub after : ℕ → List ℕ → List ℕ
after mark [] = []
after mark (b ∷ text) = if b == mark then text else after mark text

-- equal without regard to ASCII case; the second text is in lower case
abbrev pub is_same : List ℕ → List ℕ → Bool
is_same text lower = bytes_eq (map to_ascii_lowercase text) lower

-- the same at the end of the first text
abbrev pub ends_same : List ℕ → List ℕ → Bool
ends_same text lower = nat_le (length lower) (length text) && is_same (drop (length text - length lower) text) lower

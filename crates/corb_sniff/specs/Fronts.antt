-- What a list of bytes begins with, and what is left behind it.
use Rattle.std.specs.Prelude.{ℕ, Bool, true, false, ◌||◌, ◌&&◌, ◌==◌, Option, Some, None, List, [], ◌∷◌, if◌then◌else◌}

-- space, tab, carriage return or line feed
abbrev pub is_white : ℕ → Bool
is_white b = b == 32 || b == 9 || b == 13 || b == 10

-- the list begins with the word
abbrev pub begins : List ℕ → List ℕ → Bool
begins [] list = true
begins (w ∷ word) [] = false
begins (w ∷ word) (b ∷ list) = b == w && begins word list

-- the list and the word agree as far as both go: the list begins with the word, or is a beginning of it
abbrev pub agrees : List ℕ → List ℕ → Bool
agrees [] list = true
agrees (w ∷ word) [] = true
agrees (w ∷ word) (b ∷ list) = b == w && agrees word list

-- what is left behind the white space in front
abbrev pub after_white : List ℕ → List ℕ
after_white [] = []
after_white (b ∷ list) = if is_white b then after_white list else b ∷ list

-- what is left behind that byte, where the list begins with it
abbrev pub after_byte : ℕ → List ℕ → Option (List ℕ)
after_byte byte [] = None
after_byte byte (b ∷ list) = if b == byte then Some list else None

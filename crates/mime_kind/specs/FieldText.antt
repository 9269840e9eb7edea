-- The text of a header field: bytes that print, blanks within, none at an end. After the field values of RFC 9110,
-- section 5.5, without bytes past ASCII.
use Rattle.std.specs.Prelude.{ℕ, Bool, false, not, ◌&&◌, ◌||◌, ◌==◌, nat_le, List, [], ◌∷◌, reverse}
use Rattle.std.specs.List.{list_all}

-- a space or a tab
abbrev pub is_blank : ℕ → Bool
is_blank b = b == 32 || b == 9

-- a tab, or a byte from space to tilde
abbrev pub is_field_byte : ℕ → Bool
is_field_byte b = b == 9 || (nat_le 32 b && nat_le b 126)

-- the text begins with a blank
abbrev pub begins_blank : List ℕ → Bool
begins_blank [] = false
begins_blank (b ∷ text) = is_blank b

-- such bytes alone, with no blank at either end
abbrev pub is_field_text : List ℕ → Bool
is_field_text text = list_all is_field_byte text && not (begins_blank text) && not (begins_blank (reverse text))

-- How the text of a history spells a URL: one or more bytes from space to tilde. Own format.
use Rattle.std.specs.Prelude.{ℕ, Bool, ◌&&◌, nat_lt, nat_le, List, length}
use Rattle.std.specs.List.{list_all}

-- a printable byte
abbrev pub is_printable : ℕ → Bool
is_printable b = nat_le 32 b && nat_le b 126

-- one or more printable bytes
unfoldable pub is_url_spelling : List ℕ → Bool
is_url_spelling text = nat_lt 0 (length text) && list_all is_printable text

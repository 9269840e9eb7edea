-- How a host is spelled in the text of a history: an address in brackets, or a name of visible bytes. Own format.
use Rattle.std.specs.Prelude.{ℕ, ◌-◌, Bool, not, ◌&&◌, ◌||◌, ◌==◌, nat_lt, nat_le, List, length, slice_index, slice_range, if◌then◌else◌}
use Rattle.std.specs.List.{list_all}

-- a hexadecimal digit, a colon or a dot
abbrev pub is_address_byte : ℕ → Bool
is_address_byte b = (nat_le 48 b && nat_le b 58) || (nat_le 65 b && nat_le b 70) || (nat_le 97 b && nat_le b 102) || b == 46

-- visible, and none of `/`, `:`, `[` and `]`
abbrev pub is_name_byte : ℕ → Bool
is_name_byte b = nat_le 33 b && nat_le b 126 && not (b == 47 || b == 58 || b == 91 || b == 93)

-- an address between brackets, or a name
unfoldable pub is_host : List ℕ → Bool
is_host text = if slice_index text 0 == 91
    then nat_lt 2 (length text) && slice_index text (length text - 1) == 93
    && list_all is_address_byte (slice_range text 1 (length text - 1))
    else nat_lt 0 (length text) && list_all is_name_byte text

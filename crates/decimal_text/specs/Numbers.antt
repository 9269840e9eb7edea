-- Numbers as texts write them: decimal, without sign and without leading zeros. Own format.
use Rattle.std.specs.Prelude.{ℕ, ◌^◌, Bool, not, ◌&&◌, ◌||◌, ◌==◌, nat_lt, List, length, slice_index, Option, Some, None, if◌then◌else◌}
use Rattle.std.specs.List.{list_all}
use Rattle.std.specs.Char.{is_ascii_digit}
use Rattle.std.specs.Str.Parse.{digits_value}

-- digits, of which the first is no zero unless it is the only one
unfoldable pub is_numeral : List ℕ → Bool
is_numeral text = nat_lt 0 (length text) && list_all is_ascii_digit text && (length text == 1 || not (slice_index text 0 == 48))

-- the number below a limit that a text writes
unfoldable pub number_below : ℕ → List ℕ → Option ℕ
number_below limit text = if is_numeral text && nat_lt (digits_value 10 text) limit then Some (digits_value 10 text) else None

-- the number below 2^64 that a text writes
abbrev pub long_decimal_number : List ℕ → Option ℕ
long_decimal_number text = number_below (2 ^ 64) text

-- the number below 2^32 that a text writes
unfoldable pub decimal_number : List ℕ → Option ℕ
decimal_number text = number_below (2 ^ 32) text

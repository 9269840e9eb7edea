-- Readers of single JSON values.
use Rattle.std.specs.Prelude.{ℕ, Bool, ◌&&◌, nat_le, List, length, option_and_then}
use Rattle.serde_json.specs.Data.{Data}
use Rattle.serde_json.specs.Find.{as_bool, as_number, as_u64, as_str}
use Rattle.script_input.specs.Checked.{Checked, ◌>>=◌, check, typed}
use Rattle.script_input.specs.Refusals.{past_limit}

-- a boolean
abbrev pub bool_at : Data → Checked Bool
bool_at d = typed (as_bool d)

-- a string
abbrev pub string_at : Data → Checked (List ℕ)
string_at d = typed (as_str d)

-- an integer: a number without sign, fraction and exponent
abbrev pub number_at : Data → Checked ℕ
number_at d = typed (option_and_then as_u64 (as_number d))

-- the bounds take it
abbrev pub is_within : ℕ → ℕ → ℕ → Bool
is_within least most n = nat_le least n && nat_le n most

-- an integer within bounds, else X6
unfoldable pub integer_within : ℕ → ℕ → Data → Checked ℕ
integer_within least most d = number_at d >>= λ n. check (is_within least most n) past_limit n

-- a string whose count of bytes is within bounds, else X6
unfoldable pub text_within : ℕ → ℕ → Data → Checked (List ℕ)
text_within least most d = string_at d >>= λ text. check (is_within least most (length text)) past_limit text

-- the text of a URL, whether it can be read or not: at most 4,096 bytes
abbrev pub url_input_at : Data → Checked (List ℕ)
url_input_at = text_within 0 4096

-- the text of a post or of a request to a service: at most 1,024 bytes
abbrev pub short_text_at : Data → Checked (List ℕ)
short_text_at = text_within 0 1024

-- the name of a service: 1 to 32 bytes
abbrev pub service_name_at : Data → Checked (List ℕ)
service_name_at = text_within 1 32

-- a number of a frame, a document or a navigation: an integer below 2^32
abbrev pub object_number_at : Data → Checked ℕ
object_number_at = integer_within 0 4294967295

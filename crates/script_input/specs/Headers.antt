-- Header fields of responses, as lists of a name and a value.
use Rattle.std.specs.Prelude.{ℕ, Bool, ◌&&◌, nat_le, nat_lt, List, [], length, Ok, codes, if◌then◌else◌}
use Rattle.std.specs.List.{list_all}
use Rattle.serde_json.specs.Data.{Data, Items, no_items, item}
use Rattle.serde_json.specs.Find.{as_array}
use Rattle.http_header.specs.FieldName.{is_field_name}
use Rattle.http_header.specs.HeaderMap.{Entries, append_all}
use Rattle.http_header.specs.Token.{lowercase}
use Rattle.mime_kind.specs.FieldText.{is_field_byte}
use Rattle.mime_kind.specs.Texts.{stripped}
use Rattle.script_input.specs.Checked.{Checked, ◌>>=◌, below, check, refuse, typed}
use Rattle.script_input.specs.Refusals.{bad_header, past_limit}
use Rattle.script_input.specs.Values.{string_at}
use Rattle.script_input.specs.Lists.{list_at}

-- 1 to 64 bytes that are a header's name
abbrev pub is_name : List ℕ → Bool
is_name text = nat_le (length text) 64 && is_field_name text

-- a name, kept in lower case, else X5
unfoldable pub name_at : Data → Checked (List ℕ)
name_at d = string_at d >>= λ text. check (is_name text) bad_header (lowercase text)

-- bytes that may stand in a field, else X5
abbrev pub field_of : List ℕ → Checked (List ℕ)
field_of text = check (list_all is_field_byte text) bad_header text

-- a value without the blanks at its ends, of at most 1,024 bytes, else X6
unfoldable pub value_of : List ℕ → Checked (List ℕ)
value_of text = if nat_lt 1024 (length text) then refuse past_limit else field_of text

abbrev pub value_at : Data → Checked (List ℕ)
value_at d = string_at d >>= λ text. value_of (stripped text)

-- a list of two, a name and a value, else X6
abbrev pub pair_of : Items → Checked (List ℕ × List ℕ)
pair_of (item name (item value no_items)) = do
  name ← below (codes "0") (name_at name)
  value ← below (codes "1") (value_at value)
  Ok (name, value)
pair_of ds = refuse past_limit

unfoldable pub header_at : Data → Checked (List ℕ × List ℕ)
header_at d = typed (as_array d) >>= pair_of

-- at most 64 headers, each appended to those before it
unfoldable pub headers_at : Data → Checked (Entries (List ℕ))
headers_at d = list_at (λ before. header_at) 64 d >>= λ headers. Ok (append_all [] headers)

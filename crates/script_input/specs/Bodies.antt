-- Bodies, and where they are cut and break off.
use Rattle.std.specs.Prelude.{ℕ, ◌-◌, not, ◌&&◌, nat_le, nat_lt, List, [], length, slice_get, codes, unwrap_or, Result, Ok, Err, ⊤}
use Rattle.serde_json.specs.Data.{Data}
use Rattle.hex.specs.Hex.{decode_of}
use Rattle.hex.specs.declared.error.FromHexError.{FromHexError}
use Rattle.script_input.specs.declared.body.Delivery.{Delivery}
use Rattle.script_input.specs.Checked.{Checked, ◌>>=◌, check, refuse}
use Rattle.script_input.specs.Refusals.{past_limit, wrong_shape}
use Rattle.script_input.specs.Values.{integer_within, number_at, string_at, text_within}
use Rattle.script_input.specs.Objects.{has, optional}
use Rattle.script_input.specs.Lists.{list_at}

-- the most bytes of a body
abbrev pub max_body : ℕ
max_body = 16384

-- `body` and `body_hex` are not both there, else X2 at the object
unfoldable pub one_body : Data → Checked ⊤
one_body d = check (not (has (codes "body") d && has (codes "body_hex") d)) wrong_shape tt

-- bytes that are not too many, else X6
abbrev pub decoded : Result (List ℕ) FromHexError → Checked (List ℕ)
decoded (Ok bytes) = check (nat_le (length bytes) max_body) past_limit bytes
decoded (Err e) = refuse wrong_shape

-- the bytes that an even number of hexadecimal digits of either case write, else X2
unfoldable pub hex_body_at : Data → Checked (List ℕ)
hex_body_at d = string_at d >>= λ text. decoded (decode_of text)

-- the bytes of `body`, or those of `body_hex`, or none
unfoldable pub body_in : Data → Checked (List ℕ)
body_in d = do
  text ← optional (codes "body") (text_within 0 max_body) d
  bytes ← optional (codes "body_hex") hex_body_at d
  Ok (unwrap_or bytes (unwrap_or text []))

-- the last of the cuts, or 0, where the body begins
abbrev pub last_cut : List ℕ → ℕ
last_cut cuts = unwrap_or (slice_get cuts (length cuts - 1)) 0

-- a cut behind the one before it and before the end of a body of so many bytes, else X6
unfoldable pub cut_at : ℕ → List ℕ → Data → Checked ℕ
cut_at size before d = number_at d >>= λ cut. check (nat_lt (last_cut before) cut && nat_lt cut size) past_limit cut

-- at most 63 cuts
abbrev pub cuts_at : ℕ → Data → Checked (List ℕ)
cuts_at size = list_at (cut_at size) 63

-- the cuts, none where they are left out
unfoldable pub cuts_in : ℕ → Data → Checked (List ℕ)
cuts_in size d = optional (codes "cuts") (cuts_at size) d >>= λ cuts. Ok (unwrap_or cuts [])

-- a body with its cuts, which may break off after any number of its bytes, else X6
unfoldable pub delivery_in : Data → Checked Delivery
delivery_in d = do
  body ← body_in d
  cuts ← cuts_in (length body) d
  fail_after ← optional (codes "fail_after") (integer_within 0 (length body)) d
  Ok (record { body = body; cuts = cuts; fail_after = fail_after })

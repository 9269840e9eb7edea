-- When a list of bytes is JSON: our own rule, after Chromium's CORB explainer. It begins as an object with a first name
-- in quotes and a colon, which no script begins with.
use Rattle.std.specs.Prelude.{ℕ, Bool, ◌==◌, nat_le, Option, Some, None, List, [], ◌∷◌, if◌then◌else◌, is_some}
use Rattle.call_answers.specs.Chains.{◌>>=◌}
use Rattle.corb_sniff.specs.Fronts.{after_white, after_byte}

-- What is left behind a string whose opening quote is gone: bytes from 32 on other than `"` and `\`,
-- or `\` with one byte from 32 on, up to a `"`.
abbrev mutual
  pub after_string : List ℕ → Option (List ℕ)
  after_string [] = None
  after_string (b ∷ list) = if b == 34 then Some list else (if b == 92 then after_escape list else (if nat_le 32 b then after_string list else None))

  -- the same, behind a `\`
  pub after_escape : List ℕ → Option (List ℕ)
  after_escape [] = None
  after_escape (b ∷ list) = if nat_le 32 b then after_string list else None

-- the list begins with white space, `{`, white space, a string, white space, `:`
unfoldable pub is_json : List ℕ → Bool
is_json list = is_some (do
  object ← after_byte 123 (after_white list)
  string ← after_byte 34 (after_white object)
  rest ← after_string string
  after_byte 58 (after_white rest))

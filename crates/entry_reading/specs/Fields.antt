-- For the proof that reading inverts printing: how the fields of a line are read, from the left. Which lines there are is said by printing alone;
-- the proof shows that each reader takes the spellings that are printed, and nothing else.
use Rattle.std.specs.Prelude.{ℕ, ◌+◌, ◌^◌, Bool, not, ◌==◌, ◌&&◌, ◌||◌, nat_lt, nat_le, nat_eq, List, [], ◌∷◌, length, drop, take, codes, bytes_eq, slice_index, find, Option, Some, None, if◌then◌else◌}
use Rattle.std.specs.Result.{result_ok}
use Rattle.std.specs.List.{list_all, starts_with}
use Rattle.std.specs.Str.{is_utf8}
use Rattle.hex.specs.Hex.{decode_of}
use Rattle.call_answers.specs.Chains.{◌>>=◌}
use Rattle.page_origin.specs.HostSpelling.{is_host}
use Rattle.page_origin.specs.UrlText.{is_url_spelling}
use Rattle.page_origin.specs.Origins.{default_port_of}
use Rattle.page_origin.specs.declared.site.Scheme.{Scheme}
use Rattle.page_origin.specs.declared.site.Scheme.TheVariants.{Http, Https}
use Rattle.page_origin.specs.declared.site.Site.{Site}
use Rattle.page_origin.specs.declared.origin.TupleOrigin.{TupleOrigin}
use Rattle.page_origin.specs.declared.origin.Origin.{Origin}
use Rattle.page_origin.specs.declared.origin.Origin.TheVariants.{Opaque, Tuple}
use Rattle.decimal_text.specs.Numbers.{decimal_number}
use Rattle.history_entry.specs.RuleText.{all_rules, rule_text}
use Rattle.history_entry.specs.declared.rule.Rule.{Rule}

-- what stands before the first mark
abbrev pub before : ℕ → List ℕ → List ℕ
before mark [] = []
before mark (b ∷ text) = if b == mark then [] else b ∷ before mark text

-- what stands from the first mark on
abbrev pub onwards : ℕ → List ℕ → List ℕ
onwards mark [] = []
onwards mark (b ∷ text) = if b == mark then b ∷ text else onwards mark text

-- what stands behind a mark at the front
abbrev pub past : ℕ → List ℕ → Option (List ℕ)
past mark [] = None
past mark (b ∷ text) = if b == mark then Some text else None

-- what stands behind ` => ` at the front
abbrev pub past_arrow : List ℕ → Option (List ℕ)
past_arrow text = if starts_with nat_eq text (codes " => ") then Some (drop 4 text) else None

-- the field behind a space at the front, up to the next space, and what stands from that on
unfoldable pub next_field : List ℕ → Option (List ℕ × List ℕ)
next_field text = past 32 text >>= λ rest. Some (before 32 rest, onwards 32 rest)

-- the next field, read by itself, and what is left
abbrev pub field_by : {A : Type 0} → (List ℕ → Option A) → List ℕ → Option (A × List ℕ)
field_by read text = do
  field ← next_field text
  x ← read field.0
  Some (x, field.1)

-- what was read, where nothing is left
abbrev pub whole : {A : Type 0} → Option (A × List ℕ) → Option A
whole read = read >>= λ p. if length p.1 == 0 then Some p.0 else None

-- a hexadecimal digit, and none in upper case
abbrev pub is_lower_digit : ℕ → Bool
is_lower_digit b = (nat_le 48 b && nat_le b 57) || (nat_le 97 b && nat_le b 102)

-- bytes in lower-case hexadecimal, and none of a dash
unfoldable pub bytes_of : List ℕ → Option (List ℕ)
bytes_of text = if bytes_eq text (codes "-") then Some []
    else (if nat_lt 0 (length text) && list_all is_lower_digit text then result_ok (decode_of text) else None)

-- the bytes of a piece, one at least
unfoldable pub piece_of : List ℕ → Option (List ℕ)
piece_of text = bytes_of text >>= λ bytes. if length bytes == 0 then None else Some bytes

-- a text of UTF-8 in hexadecimal
unfoldable pub text_of : List ℕ → Option (List ℕ)
text_of text = bytes_of text >>= λ bytes. if is_utf8 bytes then Some bytes else None

-- a URL
unfoldable pub url_of : List ℕ → Option (List ℕ)
url_of text = if is_url_spelling text then Some text else None

-- a host
abbrev pub host_of : List ℕ → Option (List ℕ)
host_of text = if is_host text then Some text else None

-- a scheme, and what stands behind `://`
abbrev pub scheme_of : List ℕ → Option (Scheme × List ℕ)
scheme_of text =
    if starts_with nat_eq text (codes "https://") then Some (Https, drop 8 text)
    else (if starts_with nat_eq text (codes "http://") then Some (Http, drop 7 text) else None)

-- how long the host at the front is: it ends with a bracket where it begins with one, and before a colon else
abbrev pub host_length : List ℕ → ℕ
host_length text = if slice_index text 0 == 91 then length (before 93 text) + 1 else length (before 58 text)

-- whether a number is a port that is written out: one of 16 bits, and not the scheme's own
abbrev pub is_written_port : Scheme → ℕ → Bool
is_written_port scheme n = nat_lt n (2 ^ 16) && not (n == default_port_of scheme)

-- the port behind a colon, and the scheme's own where nothing is left
abbrev pub port_of : Scheme → List ℕ → Option ℕ
port_of scheme [] = Some (default_port_of scheme)
port_of scheme (b ∷ text) = if b == 58
    then (decimal_number text >>= λ n. if is_written_port scheme n then Some n else None)
    else None

-- a host and perhaps a port
abbrev pub tuple_by : Scheme → List ℕ → Option TupleOrigin
tuple_by scheme text = do
  host ← host_of (take (host_length text) text)
  port ← port_of scheme (drop (host_length text) text)
  Some (record { scheme = scheme; host = host; port = port })

-- a tuple origin: a scheme, a host and perhaps a port
unfoldable pub tuple_of : List ℕ → Option TupleOrigin
tuple_of text = scheme_of text >>= λ scheme. tuple_by scheme.0 scheme.1

-- a site that many origins share: a scheme and a host
abbrev pub shared_site_of : List ℕ → Option Site
shared_site_of text = do
  scheme ← scheme_of text
  host ← host_of scheme.1
  Some (record { scheme = scheme.0; host = host; only = None })

-- the site of an isolated origin, behind its `=`
abbrev pub isolated_site_of : List ℕ → Option Site
isolated_site_of text = tuple_of text >>= λ o. Some (record { scheme = o.scheme; host = o.host; only = Some o.port })

-- a site
unfoldable pub site_of : List ℕ → Option Site
site_of text = if starts_with nat_eq text (codes "=") then isolated_site_of (drop 1 text) else shared_site_of text

-- an opaque origin behind `opaque:`: the number of its document and its precursor
abbrev pub opaque_of : List ℕ → Option Origin
opaque_of text = do
  document ← decimal_number (before 58 text)
  rest ← past 58 (onwards 58 text)
  precursor ← site_of rest
  Some (Opaque (record { document = document; precursor = precursor }))

-- an origin
unfoldable pub origin_of : List ℕ → Option Origin
origin_of text = if starts_with nat_eq text (codes "opaque:") then opaque_of (drop 7 text)
    else (tuple_of text >>= λ tuple. Some (Tuple tuple))

-- whether a text is the code of a rule
unfoldable pub has_code : List ℕ → Rule → Bool
has_code text rule = bytes_eq (rule_text rule) text

-- the rule of a code
unfoldable pub rule_of : List ℕ → Option Rule
rule_of text = find (has_code text) all_rules

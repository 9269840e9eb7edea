-- The essence of a media type, after the MIME Sniffing Standard and RFC 9110, sections 5.6.2 (token) and 8.3.1. ASCII
-- case is left as it is, since essences are compared without regard to it.
use Rattle.std.specs.Prelude.{ℕ, Bool, ◌&&◌, nat_lt, List, length}
use Rattle.std.specs.List.{list_all}
use Rattle.http_header.specs.Token.{is_token_byte}
use Rattle.mime_kind.specs.Texts.{stripped, before, after}

-- the part of a value before its first `;`, stripped
abbrev pub essence : List ℕ → List ℕ
essence value = stripped (before 59 value)

-- one or more token bytes
abbrev pub is_token : List ℕ → Bool
is_token text = nat_lt 0 (length text) && list_all is_token_byte text

-- a token, `/` and a token
abbrev pub is_well_formed : List ℕ → Bool
is_well_formed essence = is_token (before 47 essence) && is_token (after 47 essence)

-- the part of an essence after its `/`
abbrev pub subtype : List ℕ → List ℕ
subtype essence = after 47 essence

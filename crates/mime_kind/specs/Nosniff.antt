-- Whether a response asks that its type be taken as it is: "determine nosniff" of the Fetch Standard, which gets, decodes
-- and splits the values of `X-Content-Type-Options`. Quoted strings need no rule here, since `nosniff` has no quote.
use Rattle.std.specs.Prelude.{ℕ, Bool, List, codes}
use Rattle.std.specs.List.{join_with_byte}
use Rattle.http_header.specs.HeaderMap.{Entries, get_all}
use Rattle.mime_kind.specs.Texts.{stripped, before, is_same}

-- the first member of a header's list: its values joined with `,` and cut at commas, stripped
abbrev pub first_member : List (List ℕ) → List ℕ
first_member values = stripped (before 44 (join_with_byte 44 values))

-- the first member is `nosniff`, without regard to ASCII case
unfoldable pub nosniff : Entries (List ℕ) → Bool
nosniff fields = is_same (first_member (get_all fields (codes "x-content-type-options"))) (codes "nosniff")

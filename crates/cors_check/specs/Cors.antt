-- The CORS check of the Fetch Standard, without credentials.
use Rattle.std.specs.Prelude.{ℕ, Bool, ◌&&◌, ◌||◌, nat_lt, List, length, codes, bytes_eq, if◌then◌else◌}
use Rattle.http_header.specs.HeaderMap.{Entries, get_all}
use Rattle.mime_kind.specs.JoinedValues.{joined_values}
use Rattle.page_origin.specs.declared.origin.Origin.{Origin}
use Rattle.cors_check.specs.declared.answer.Cors.{Cors}
use Rattle.cors_check.specs.declared.answer.Cors.TheVariants.{SameOrigin, Passed, Failed}
use Rattle.cors_check.specs.Chains.{is_same_origin_chain, compared_text}

-- there is a value, and joined they are `*` or the compared text
abbrev pub allows : List ℕ → List (List ℕ) → Bool
allows compared values = nat_lt 0 (length values)
    && (bytes_eq (joined_values values) (codes "*") || bytes_eq (joined_values values) compared)

-- the answer on the origin and the URLs of a request and the fields of its response
unfoldable pub cors : Origin → List (List ℕ) → Entries (List ℕ) → Cors
cors origin chain fields =
    if is_same_origin_chain origin chain then SameOrigin
    else (if allows (compared_text origin chain) (get_all fields (codes "access-control-allow-origin")) then Passed
    else Failed)

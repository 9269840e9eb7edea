-- Whose no-cors requests a response lets use it, after the header `Cross-Origin-Resource-Policy` of the Fetch Standard.
-- Our own: every text but the two words means Any, `cross-origin` too, and texts are compared with case.
use Rattle.std.specs.Prelude.{ℕ, List, codes, bytes_eq, if◌then◌else◌}
use Rattle.http_header.specs.HeaderMap.{Entries, get_all}
use Rattle.mime_kind.specs.JoinedValues.{joined_values}
use Rattle.mime_kind.specs.declared.policy.ResourcePolicy.{ResourcePolicy}
use Rattle.mime_kind.specs.declared.policy.ResourcePolicy.TheVariants.{Any, SameOrigin, SameSite}

-- the policy that a text names
abbrev pub policy_named : List ℕ → ResourcePolicy
policy_named text =
    if bytes_eq text (codes "same-origin") then SameOrigin
    else (if bytes_eq text (codes "same-site") then SameSite else Any)

-- the policy that the joined values of the header name
unfoldable pub resource_policy : Entries (List ℕ) → ResourcePolicy
resource_policy fields = policy_named (joined_values (get_all fields (codes "cross-origin-resource-policy")))

-- Secret bodies: another body of the same length, under which every process of another site receives the same. Own rules, after
-- what Chromium's Cross-Origin Read Blocking and the header `Cross-Origin-Resource-Policy` of the Fetch Standard are for. The crate
-- `secret_bodies` proves that every secret is kept.
use Rattle.std.specs.Prelude.{◌≡◌, ◌⊎◌, [], if◌then◌else◌, Bool, IsSomeAnd, List, None, Option, Some, bytes_eq, codes, false, filter_map, length, map, not, slice_get, true, unwrap_or, ℕ}
use Rattle.std.specs.List.{list_all}
use Rattle.http_header.specs.HeaderMap.{get_all}
use Rattle.page_origin.specs.Origins.{equal_sites}
use Rattle.page_origin.specs.PageUrls.{key_of}
use Rattle.mime_kind.specs.ResourcePolicies.{resource_policy}
use Rattle.mime_kind.specs.declared.policy.ResourcePolicy.{ResourcePolicy}
use Rattle.mime_kind.specs.declared.policy.ResourcePolicy.TheVariants.{Any, SameOrigin, SameSite}
use Rattle.site_url.specs.Sites.{site_of}
use Rattle.history_entry.specs.declared.entry.Entry.{Entry}
use Rattle.history_entry.specs.declared.entry.Entry.TheVariants.{Piece}
use Rattle.history_entry.specs.declared.policy.Policy.{Policy}
use Rattle.history_entry.specs.declared.policy.Policy.TheVariants.{One, Two}
use Rattle.history_rules.specs.Orders.{lock_in}
use Rattle.script_model.specs.ResourceData.{ResourceData}
use Rattle.script_model.specs.ScriptData.{ScriptData, find_resource}
use Rattle.script_model.specs.Verdicts.{body_verdict}
use Rattle.script_model.specs.declared.verdict.Verdict.{Verdict}
use Rattle.script_model.specs.declared.verdict.Verdict.TheVariants.{Allow, Block}
use Rattle.script_model.specs.Pieces.{has_ended, pieces, seen_body}
use Rattle.history_rules.specs.Redirects.{is_web, last_url}
use Rattle.history_rules.specs.Requests.{request_chain}
use Rattle.history_rules.specs.Responses.{resource_at}
use Rattle.service_rule.specs.Services.{ServiceRule}
use Rattle.history_steps.specs.Run.{Legal}
use Rattle.history_laws.specs.Received.{received}

-- both are blocked by the same rule, or neither is settled
abbrev pub IsHiddenAlike : Option Verdict → Option Verdict → Type 0
IsHiddenAlike None other = other ≡ None
IsHiddenAlike (Some (Block rule)) other = other ≡ Some (Block rule)
IsHiddenAlike (Some (Allow rule)) other = ⊥

-- the verdict on a resource's body, without regard to who asks
abbrev pub own_verdict : ResourceData → Option Verdict
own_verdict r = body_verdict r.head (seen_body r) (has_ended r)

-- the resource with another body
abbrev pub with_own_body : List ℕ → ResourceData → ResourceData
with_own_body body r = record r { body = body }

-- a resource policy for requests of the resource's own origin or site alone
abbrev pub is_own_policy : ResourcePolicy → Bool
is_own_policy Any = false
is_own_policy SameOrigin = true
is_own_policy SameSite = true

-- under the second policy: the resource's policy keeps every body of it from other sites
abbrev pub is_kept_back : Policy → ResourceData → Bool
is_kept_back One r = false
is_kept_back Two r = is_own_policy (resource_policy r.head.fields)

-- no other site reads either body: the resource's policy keeps both from them, or this one hides as the resource's own does
abbrev pub IsHidden : Policy → ResourceData → List ℕ → Type 0
IsHidden policy r body =
    (is_kept_back policy r ≡ true) ⊎ IsHiddenAlike (own_verdict r) (own_verdict (with_own_body body r))

-- the resource is of class Web and has no Access-Control-Allow-Origin header; this body has the length of its own, and no other
-- site reads either
pub record IsSecretBody (policy : Policy) (r : ResourceData) (body : List ℕ) : Type 0 where
  pub web : is_web r.url ≡ true
  pub closed : get_all r.head.fields (codes "access-control-allow-origin") ≡ []
  pub same_length : length body ≡ length r.body
  pub hidden : IsHidden policy r body

-- the resource of the key is there, and no other site reads its own body or this one
abbrev pub Secret : ScriptData → List ℕ → List ℕ → Type 0
Secret s key body = IsSomeAnd (find_resource s key) (λ r. IsSecretBody s.policy r body)

-- the resource with another body where it has the key
abbrev pub with_body_at : List ℕ → List ℕ → ResourceData → ResourceData
with_body_at key body r = if bytes_eq (key_of r.url) key then with_own_body body r else r

-- the script with this body in place, and all else as it was
abbrev pub with_body : ScriptData → List ℕ → List ℕ → ScriptData
with_body s key body = record s { resources = map (with_body_at key body) s.resources }

-- the request's last URL has this key
abbrev pub has_key : List Entry → List ℕ → ℕ → Bool
has_key h key r = bytes_eq (key_of (last_url (request_chain h r))) key

-- a piece of such a request holds the new body's bytes at its place; one past the pieces stays, and so does all else
abbrev pub swapped : ScriptData → List ℕ → List ℕ → List Entry → Entry → Entry
swapped s key body h (Piece r i bytes) =
    if has_key h key r
    then Piece r i (unwrap_or (slice_get (pieces (resource_at (with_body s key body) key)) i) bytes)
    else Piece r i bytes
swapped s key body h e = e

-- the history with the new body's pieces
unfoldable pub swap_body : ScriptData → List ℕ → List ℕ → List Entry → List Entry
swap_body s key body h = map (swapped s key body h) h

-- the process was never locked to the site of the key's URL
unfoldable pub was_never_of : ScriptData → List Entry → List ℕ → ℕ → Bool
was_never_of s h key p = list_all (λ site. not (equal_sites site (site_of s.rules key))) (filter_map (lock_in p) h)

-- secret independence: the swapped history is legal for the changed script, and each process that was never locked to the
-- resource's site has received the same
pub record SecretIndependence (rule : ServiceRule) (s : ScriptData) (key body : List ℕ) (h : List Entry) : Type 0 where
  pub legal : Legal rule (with_body s key body) (swap_body s key body h)
  pub same : (p : ℕ) → was_never_of s h key p ≡ true → received h p ≡ received (swap_body s key body h) p

-- what is promised of every legal history and every secret
abbrev pub SecretsAreKept : ServiceRule → ScriptData → Type 0
SecretsAreKept rule s = (key body : List ℕ) (h : List Entry) → Legal rule s h → Secret s key body → SecretIndependence rule s key body h

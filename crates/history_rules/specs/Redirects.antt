-- Redirects, after HTTP-redirect fetch of the Fetch Standard: 20 are followed, to http and https alone. Our own: the first of several
-- Location values counts, and the fragment of the redirected URL is not carried over.
use Rattle.std.specs.Prelude.{◌==◌, ◌&&◌, ◌||◌, [], if◌then◌else◌, Bool, List, None, Option, Some, codes, false, is_some, length, nat_lt, not, option_and_then, slice_get, true, unwrap_or, ℕ}
use Rattle.std.specs.List.{last_or}
use Rattle.std.specs.Result.{result_ok}
use Rattle.http_header.specs.HeaderMap.{get_all}
use Rattle.page_origin.specs.PageUrls.{class_of, join_url_of}
use Rattle.page_origin.specs.declared.class.UrlClass.{UrlClass}
use Rattle.page_origin.specs.declared.class.UrlClass.TheVariants.{AboutBlank, AboutSrcdoc, DataUrl, Foreign, Web}
use Rattle.script_model.specs.ResourceData.{fails_at_once, ResourceData}
use Rattle.script_model.specs.ScriptData.{ScriptData}
use Rattle.script_model.specs.declared.limits.TheConstants.{MAX_REDIRECTS}
use Rattle.history_rules.specs.Responses.{resource_at}

-- the class is Web
abbrev pub is_web_class : UrlClass → Bool
is_web_class Web = true
is_web_class AboutBlank = false
is_web_class AboutSrcdoc = false
is_web_class DataUrl = false
is_web_class Foreign = false

-- a URL of class Web
abbrev pub is_web : List ℕ → Bool
is_web url = is_web_class (class_of url)

-- a status of a redirect
abbrev pub is_redirect_status : ℕ → Bool
is_redirect_status status = status == 301 || status == 302 || status == 303 || status == 307 || status == 308

-- the first Location value
abbrev pub location_of : ResourceData → Option (List ℕ)
location_of r = slice_get (get_all r.head.fields (codes "location")) 0

-- a redirect: such a status with a Location
abbrev pub is_redirect : ResourceData → Bool
is_redirect r = is_redirect_status r.head.status && is_some (location_of r)

-- status 204 or 205, which commits nothing
abbrev pub has_no_content : ResourceData → Bool
has_no_content r = r.head.status == 204 || r.head.status == 205

-- the last URL of a chain
abbrev pub last_url : List (List ℕ) → List ℕ
last_url chain = unwrap_or (last_or None chain) []

-- the response of a chain: that of its last URL
abbrev pub response : ScriptData → List (List ℕ) → ResourceData
response s chain = resource_at s (last_url chain)

-- 20 redirects were followed, so that one more is the 21st
abbrev pub is_spent : List (List ℕ) → Bool
is_spent chain = nat_lt MAX_REDIRECTS (length chain)

-- the Location joined to the current URL
abbrev pub joined_url : ScriptData → List (List ℕ) → Option (List ℕ)
joined_url s chain = result_ok (join_url_of (last_url chain) (unwrap_or (location_of (response s chain)) []))

-- the chain ends at a redirect that is followed to this URL
unfoldable pub hop_url : ScriptData → List (List ℕ) → Option (List ℕ)
hop_url s chain =
    if fails_at_once (response s chain) || not (is_redirect (response s chain)) || is_spent chain then None
    else option_and_then (λ url. if is_web url then Some url else None) (joined_url s chain)

-- A resource as plain data, and what every resource keeps. Own format.
use Rattle.std.specs.Option.{option_map_or}
use Rattle.std.specs.Prelude.{◌≡◌, ◌≤◌, ◌<◌, ◌==◌, [], All, Bool, List, None, Option, Some, false, length, true, ⊤, ℕ}
use Rattle.std.specs.List.Sorted.{IsStrictlyIncreasing}
use Rattle.http_header.specs.HeaderMap.{Entries, value_count}
use Rattle.mime_kind.specs.declared.head.Head.{Head as ResponseHead}
use Rattle.page_origin.specs.PageUrls.{class_of}
use Rattle.page_origin.specs.declared.class.UrlClass.{UrlClass}
use Rattle.page_origin.specs.declared.class.UrlClass.TheVariants.{AboutBlank, AboutSrcdoc, DataUrl, Foreign, Web}
use Rattle.script_model.specs.ActionLimits.{IsAction}
use Rattle.script_model.specs.declared.action.Action.{Action}
use Rattle.script_model.specs.declared.limits.TheConstants.{MAX_ACTIONS, MAX_BODY, MAX_CUTS, MAX_HEADERS, MAX_HEADER_NAME, MAX_HEADER_VALUE}

-- a resource: its URL, its response, where its body is cut and after how many bytes it breaks off, and what its documents do
pub record ResourceData : Type 0 where
  pub url : List ℕ
  pub head : ResponseHead
  pub body : List ℕ
  pub cuts : List ℕ
  pub fail_after : Option ℕ
  pub actions : List Action

-- a resource of which a script says only the URL
abbrev pub empty_resource : List ℕ → ResourceData
empty_resource url = record {
  url = url;
  head = record { status = 200; fields = [] };
  body = [];
  cuts = [];
  fail_after = None;
  actions = [];
}

-- its wire fails before the head
abbrev pub fails_at_once : ResourceData → Bool
fails_at_once r = option_map_or (λ sent. sent == 0) r.fail_after false

-- the classes of URLs that resources have
abbrev pub is_resource_class : UrlClass → Bool
is_resource_class Web = true
is_resource_class AboutBlank = true
is_resource_class AboutSrcdoc = false
is_resource_class DataUrl = true
is_resource_class Foreign = false

-- a header: a name of at most 64 bytes, each value of at most 1,024
pub record IsHeader (header : List ℕ × List (List ℕ)) : Type 0 where
  pub name : length header.0 ≤ MAX_HEADER_NAME
  pub values : All (λ value. length value ≤ MAX_HEADER_VALUE) header.1

-- the header fields of a response: at most 64 values in all
pub record IsHeaders (fields : Entries (List ℕ)) : Type 0 where
  pub few : value_count fields ≤ MAX_HEADERS
  pub short : All IsHeader fields

-- cuts of a body of so many bytes: at most 63, each before the next, each within the body
pub record IsCuts (size : ℕ) (cuts : List ℕ) : Type 0 where
  pub few : length cuts ≤ MAX_CUTS
  pub rising : IsStrictlyIncreasing cuts
  pub within : All (λ cut. (0 < cut) × (cut < size)) cuts

-- a body of so many bytes may break off after any number of them
abbrev pub IsFault : ℕ → Option ℕ → Type 0
IsFault size None = ⊤
IsFault size (Some sent) = sent ≤ size

-- what every resource keeps
pub record IsResource (r : ResourceData) : Type 0 where
  pub class : is_resource_class (class_of r.url) ≡ true
  pub lowest_status : 200 ≤ r.head.status
  pub highest_status : r.head.status ≤ 599
  pub headers : IsHeaders r.head.fields
  pub short_body : length r.body ≤ MAX_BODY
  pub cuts : IsCuts (length r.body) r.cuts
  pub fault : IsFault (length r.body) r.fail_after
  pub few_actions : length r.actions ≤ MAX_ACTIONS
  pub actions : All IsAction r.actions

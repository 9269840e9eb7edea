-- A script as plain data, and what every script keeps. Own format.
use Rattle.std.specs.Prelude.{◌≡◌, ◌≢◌, ◌≤◌, All, AllPairs, Bool, List, Option, bytes_eq, find, length, ℕ}
use Rattle.page_origin.specs.PageUrls.{class_of, key_of}
use Rattle.page_origin.specs.declared.class.UrlClass.TheVariants.{Web}
use Rattle.site_url.specs.Sites.{SiteRuleData}
use Rattle.history_entry.specs.declared.policy.Policy.{Policy}
use Rattle.script_model.specs.ActionLimits.{IsActionAmong}
use Rattle.script_model.specs.ResourceData.{ResourceData}
use Rattle.script_model.specs.declared.limits.TheConstants.{MAX_RESOURCES, MAX_SOFT_LIMIT, MAX_START_PAGES}

-- a script: the policy of its verdicts, the rules of its sites, whether it keeps a spare process, from how many processes on
-- they are shared, the URLs of its start pages, and its resources
pub record ScriptData : Type 0 where
  pub policy : Policy
  pub rules : SiteRuleData
  pub spare : Bool
  pub soft_limit : ℕ
  pub start : List (List ℕ)
  pub resources : List ResourceData

-- the number of start pages
abbrev pub starts : ScriptData → ℕ
starts s = length s.start

-- what a resource is found by: its URL without the fragment
abbrev pub resource_key : ResourceData → List ℕ
resource_key r = key_of r.url

-- the resource with that key
unfoldable pub find_resource : ScriptData → List ℕ → Option ResourceData
find_resource s key = find (λ r. bytes_eq (resource_key r) key) s.resources

-- what every script keeps: at most 64 start pages, each of class Web; at most 1,024 resources, no two with one key; and
-- actions that name only resources that there are
pub record IsScript (s : ScriptData) : Type 0 where
  pub low_limit : s.soft_limit ≤ MAX_SOFT_LIMIT
  pub few_pages : length s.start ≤ MAX_START_PAGES
  pub web_pages : All (λ url. class_of url ≡ Web) s.start
  pub few_resources : length s.resources ≤ MAX_RESOURCES
  pub distinct : AllPairs (λ a b. resource_key a ≢ resource_key b) s.resources
  pub among : All (λ r. All (IsActionAmong (length s.resources)) r.actions) s.resources

-- Sites: a scheme with a registrable domain by suffix rules, after the schemeful sites of the HTML Standard, or one isolated
-- origin, after Chromium's isolated origins; but that an isolated origin is exactly the named one, without its subdomains, and
-- that the site of an opaque origin is its precursor. But for isolated origins the port does not count.
use Rattle.std.specs.Prelude.{ℕ, Bool, List, drop, None, Some, if◌then◌else◌}
use Rattle.std.specs.List.{list_any}
use Rattle.std.specs.Option.{option_map_or}
use Rattle.public_suffix.specs.RegistrableDomain.{SuffixRule, registrable}
use Rattle.page_origin.specs.declared.site.Site.{Site}
use Rattle.page_origin.specs.declared.origin.TupleOrigin.{TupleOrigin}
use Rattle.page_origin.specs.declared.origin.Origin.{Origin}
use Rattle.page_origin.specs.declared.origin.Origin.TheVariants.{Tuple, Opaque}
use Rattle.page_origin.specs.Origins.{tuple_of, equal_sites, equal_tuples}
use Rattle.site_url.specs.Addresses.{is_ip_address}

-- by what sites are told apart: suffix rules, and the isolated origins
pub record SiteRuleData : Type 0 where
  pub suffixes : List SuffixRule
  pub isolated : List TupleOrigin

-- a host's registrable domain; the whole host where it is an IP address or has none
unfoldable pub site_host : List SuffixRule → List ℕ → List ℕ
site_host suffixes host =
    if is_ip_address host then host
    else option_map_or (λ start. drop start host) (registrable suffixes host) host

-- the tuple is an isolated origin
unfoldable pub is_isolated : List TupleOrigin → TupleOrigin → Bool
is_isolated isolated o = list_any (λ other. equal_tuples o other) isolated

-- the site of a tuple origin: the origin itself where it is isolated, and else its scheme with its host's site
unfoldable pub site_of_tuple : SiteRuleData → TupleOrigin → Site
site_of_tuple rules o =
    if is_isolated rules.isolated o then record { scheme = o.scheme; host = o.host; only = Some o.port }
    else record { scheme = o.scheme; host = site_host rules.suffixes o.host; only = None }

-- the site of an origin; of an opaque one its precursor
abbrev pub site_of_origin : SiteRuleData → Origin → Site
site_of_origin rules (Tuple o) = site_of_tuple rules o
site_of_origin rules (Opaque o) = o.precursor

-- the site of a URL of class Web, by its text
abbrev pub site_of : SiteRuleData → List ℕ → Site
site_of rules url = site_of_origin rules (Tuple (tuple_of url))

-- two origins have one site
abbrev pub same_site : SiteRuleData → Origin → Origin → Bool
same_site rules a b = equal_sites (site_of_origin rules a) (site_of_origin rules b)

-- a process that is locked to a site admits an origin
abbrev pub admits : SiteRuleData → Site → Origin → Bool
admits rules site origin = equal_sites (site_of_origin rules origin) site

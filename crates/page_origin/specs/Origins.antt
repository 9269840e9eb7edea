-- Sites and origins: tuples after the URL Standard, and opaque ones, each made for one document. The text of an origin is what an
-- `Origin` header has; the text of a site is that of a history.
use Rattle.std.specs.Prelude.{ℕ, Bool, true, false, ◌==◌, ◌&&◌, List, [], ◌++◌, codes, bytes_eq, decimal, unwrap_or, Option, Some, None, if◌then◌else◌}
use Rattle.std.specs.Option.{option_or, option_map_or}
use Rattle.url.specs.Parts.{Parts, host_or_empty}
use Rattle.url.specs.Scheme.{default_port}
use Rattle.url.specs.Host.{host_text}
use Rattle.page_origin.specs.declared.site.Scheme.{Scheme}
use Rattle.page_origin.specs.declared.site.Scheme.TheVariants.{Http, Https}
use Rattle.page_origin.specs.declared.site.Site.{Site}
use Rattle.page_origin.specs.declared.origin.TupleOrigin.{TupleOrigin}
use Rattle.page_origin.specs.declared.origin.Origin.{Origin}
use Rattle.page_origin.specs.declared.origin.Origin.TheVariants.{Tuple, Opaque}
use Rattle.page_origin.specs.PageUrls.{parts_of}

abbrev pub scheme_of_parts : Parts → Scheme
scheme_of_parts url = if bytes_eq url.scheme (codes "http") then Http else Https

-- the scheme, the host and the port of a URL's parts; the scheme's own port where none is written
abbrev pub tuple_of_parts : Parts → TupleOrigin
tuple_of_parts url = record {
  scheme = scheme_of_parts url;
  host = host_text (host_or_empty url);
  port = unwrap_or (option_or url.port (default_port url.scheme)) 0;
}

abbrev pub no_tuple : TupleOrigin
no_tuple = record { scheme = Http; host = []; port = 0 }

-- the tuple origin of a URL of class Web, by its text
unfoldable pub tuple_of : List ℕ → TupleOrigin
tuple_of text = option_map_or tuple_of_parts (parts_of text) no_tuple

abbrev pub scheme_text : Scheme → List ℕ
scheme_text Http = codes "http"
scheme_text Https = codes "https"

-- the port that a scheme has where none is written
abbrev pub default_port_of : Scheme → ℕ
default_port_of Http = 80
default_port_of Https = 443

-- `scheme://host`
abbrev pub plain_text : Scheme → List ℕ → List ℕ
plain_text scheme host = scheme_text scheme ++ codes "://" ++ host

-- `:port`, and nothing where it is the scheme's own
abbrev pub port_text : Scheme → ℕ → List ℕ
port_text scheme port = if port == default_port_of scheme then [] else codes ":" ++ decimal port

-- `scheme://host`, then the port unless it is the scheme's own
abbrev pub tuple_text : TupleOrigin → List ℕ
tuple_text o = plain_text o.scheme o.host ++ port_text o.scheme o.port

-- the text of a site with this scheme and host: `scheme://host`, or of an isolated origin `=` and the text of that tuple
abbrev pub site_text_by : Scheme → List ℕ → Option ℕ → List ℕ
site_text_by scheme host None = plain_text scheme host
site_text_by scheme host (Some port) = codes "=" ++ tuple_text (record { scheme = scheme; host = host; port = port })

-- the text of a site
abbrev pub site_text : Site → List ℕ
site_text site = site_text_by site.scheme site.host site.only

abbrev pub same_scheme : Scheme → Scheme → Bool
same_scheme Http Http = true
same_scheme Http Https = false
same_scheme Https Http = false
same_scheme Https Https = true

-- both are of one isolated origin's port, or neither is of an isolated origin
abbrev pub same_only : Option ℕ → Option ℕ → Bool
same_only None None = true
same_only None (Some b) = false
same_only (Some a) None = false
same_only (Some a) (Some b) = a == b

-- equal scheme and host, and both of one isolated origin or neither of any
abbrev pub equal_sites : Site → Site → Bool
equal_sites a b = same_scheme a.scheme b.scheme && bytes_eq a.host b.host && same_only a.only b.only

abbrev pub equal_tuples : TupleOrigin → TupleOrigin → Bool
equal_tuples a b = same_scheme a.scheme b.scheme && bytes_eq a.host b.host && (a.port == b.port)

-- the same origin: equal tuples, or opaque origins of one document
abbrev pub same_origin : Origin → Origin → Bool
same_origin (Tuple a) (Tuple b) = equal_tuples a b
same_origin (Tuple a) (Opaque b) = false
same_origin (Opaque a) (Tuple b) = false
same_origin (Opaque a) (Opaque b) = a.document == b.document

-- equal as whole values, the precursors too
abbrev pub equal_origins : Origin → Origin → Bool
equal_origins (Tuple a) (Tuple b) = equal_tuples a b
equal_origins (Tuple a) (Opaque b) = false
equal_origins (Opaque a) (Tuple b) = false
equal_origins (Opaque a) (Opaque b) = (a.document == b.document) && equal_sites a.precursor b.precursor

-- the origin is the tuple origin of this URL of class Web
abbrev pub has_origin : List ℕ → Origin → Bool
has_origin url origin = same_origin origin (Tuple (tuple_of url))

-- the text of an origin: that of a tuple, or `null`
abbrev pub origin_text : Origin → List ℕ
origin_text (Tuple o) = tuple_text o
origin_text (Opaque o) = codes "null"

-- The kind of a body, by its header fields. Our own table, after the XML and JSON MIME types of the MIME Sniffing
-- Standard and Chromium's CORB explainer: `image/svg+xml` is an image, and so not XML here.
use Rattle.std.specs.Prelude.{ℕ, Bool, ◌||◌, List, codes, Option, None, if◌then◌else◌}
use Rattle.std.specs.List.{last_or}
use Rattle.std.specs.Option.{option_map_or}
use Rattle.http_header.specs.HeaderMap.{Entries, get_all}
use Rattle.mime_kind.specs.Texts.{is_same, ends_same}
use Rattle.mime_kind.specs.MediaType.{essence, is_well_formed, subtype}
use Rattle.mime_kind.specs.declared.kind.Kind.{Kind}
use Rattle.mime_kind.specs.declared.kind.Kind.TheVariants.{Html, Xml, Json, Plain, Css, Other}

-- `text/xml`, `application/xml`, or a subtype that ends in `+xml`
abbrev pub is_xml_essence : List ℕ → Bool
is_xml_essence e = is_same e (codes "text/xml") || is_same e (codes "application/xml") || ends_same (subtype e) (codes "+xml")

-- `application/json`, `text/json`, or a subtype that ends in `+json`
abbrev pub is_json_essence : List ℕ → Bool
is_json_essence e = is_same e (codes "application/json") || is_same e (codes "text/json") || ends_same (subtype e) (codes "+json")

-- the kind of a well-formed essence, without regard to ASCII case
abbrev pub kind_by_name : List ℕ → Kind
kind_by_name e =
    if is_same e (codes "text/html") then Html
    else (if is_same e (codes "image/svg+xml") then Other
    else (if is_xml_essence e then Xml
    else (if is_json_essence e then Json
    else (if is_same e (codes "text/plain") then Plain
    else (if is_same e (codes "text/css") then Css else Other)))))

-- the kind of an essence
abbrev pub kind_of_essence : List ℕ → Kind
kind_of_essence e = if is_well_formed e then kind_by_name e else Other

-- the last of the values
abbrev pub last : List (List ℕ) → Option (List ℕ)
last values = last_or None values

-- the kind of the last `Content-Type`
unfoldable pub kind_of : Entries (List ℕ) → Kind
kind_of fields = option_map_or (λ value. kind_of_essence (essence value)) (last (get_all fields (codes "content-type"))) Other

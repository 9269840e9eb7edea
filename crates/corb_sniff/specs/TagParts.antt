-- The parts of a tag of three bytes or more, as the states that read HTML go through it.
use Rattle.std.specs.Prelude.{ℕ, List, codes}
use Rattle.corb_sniff.specs.declared.tag.Tag.{Tag}
use Rattle.corb_sniff.specs.declared.tag.Tag.TheVariants.{Doctype, Script, Style, Html, Head, Iframe, Div, Font, Table, Title}

-- as much of the tag as tells it from every other tag and from a comment
abbrev pub front_of : Tag → List ℕ
front_of Doctype = codes "<!d"
front_of Script = codes "<sc"
front_of Style = codes "<st"
front_of Html = codes "<ht"
front_of Head = codes "<he"
front_of Iframe = codes "<i"
front_of Div = codes "<d"
front_of Font = codes "<f"
front_of Table = codes "<ta"
front_of Title = codes "<ti"

-- what of the tag comes behind that
abbrev pub rest_of : Tag → List ℕ
rest_of Doctype = codes "octype html"
rest_of Script = codes "ript"
rest_of Style = codes "yle"
rest_of Html = codes "ml"
rest_of Head = codes "ad"
rest_of Iframe = codes "frame"
rest_of Div = codes "iv"
rest_of Font = codes "ont"
rest_of Table = codes "ble"
rest_of Title = codes "tle"

-- When a list of bytes is XML: our own rule, after Chromium's CORB explainer. Only an XML declaration shows it.
use Rattle.std.specs.Prelude.{ℕ, Bool, List, codes}
use Rattle.corb_sniff.specs.Fronts.{after_white, begins}

-- behind white space the list begins with `<?xml` exactly
unfoldable pub is_xml : List ℕ → Bool
is_xml list = begins (codes "<?xml") (after_white list)

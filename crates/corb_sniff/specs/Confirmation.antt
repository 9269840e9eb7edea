-- Confirmation: the grammar or prefix that a body's first bytes meet, if its kind is tested for it.
-- A relation on whole lists, which knows no pieces and no state.
use Rattle.std.specs.Prelude.{ℕ, Bool, true, false, ◌&&◌, Option, List, [], ◌∷◌, take, find}
use Rattle.corb_sniff.specs.HtmlGrammar.{is_html}
use Rattle.corb_sniff.specs.XmlGrammar.{is_xml}
use Rattle.corb_sniff.specs.JsonGrammar.{is_json}
use Rattle.corb_sniff.specs.ScriptPrefixes.{has_prefix}
use Rattle.corb_sniff.specs.declared.kind.SniffKind.{SniffKind}
use Rattle.corb_sniff.specs.declared.kind.SniffKind.TheVariants as kinds
use Rattle.corb_sniff.specs.declared.kind.Sniffed.{Sniffed}
use Rattle.corb_sniff.specs.declared.kind.Sniffed.TheVariants.{Html, Xml, Json, Prefix}

-- the list meets the grammar, or begins with a prefix
abbrev pub meets : Sniffed → List ℕ → Bool
meets Html list = is_html list
meets Xml list = is_xml list
meets Json list = is_json list
meets Prefix list = has_prefix list

-- Bodies of the kind are tested for it: Html, Xml and Json for their own grammar, Plain for all three,
-- and every kind but Css for a prefix.
abbrev pub is_tested : SniffKind → Sniffed → Bool
is_tested kinds.Html Html = true
is_tested kinds.Xml Xml = true
is_tested kinds.Json Json = true
is_tested kinds.Plain sniffed = true
is_tested kinds.Css sniffed = false
is_tested kind Prefix = true
is_tested kind sniffed = false

-- all that a list can be found to be; no list is two of them
abbrev pub all_sniffed : List Sniffed
all_sniffed = Html ∷ Xml ∷ Json ∷ Prefix ∷ []

-- what the list is found to be, if the kind is tested for it
unfoldable pub found_in : SniffKind → List ℕ → Option Sniffed
found_in kind list = find (λ sniffed. is_tested kind sniffed && meets sniffed list) all_sniffed

-- the first 1,024 bytes, or the list if it is shorter
abbrev pub window : List ℕ → List ℕ
window list = take 1024 list

-- what the list's window is found to be
abbrev pub confirms : SniffKind → List ℕ → Option Sniffed
confirms kind list = found_in kind (window list)

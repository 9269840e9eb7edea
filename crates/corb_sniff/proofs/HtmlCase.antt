-- The samples are in lower case, so case doesn't matter behind them.
use Rattle.std.proofs.Common.{◌≡◌, ℕ, List, [], ◌∷◌, ◌++◌, map, take, drop, refl, sym, ap, ◌∙◌, append_assoc}
use Rattle.std.specs.Char.{to_ascii_lowercase}
use Rattle.std.proofs.lemmas.List.{map-append, take-map, drop-map}
use Rattle.corb_sniff.specs.Continuations.{AreAlike}
use Rattle.corb_sniff.specs.TagParts.{front_of, rest_of}
use Rattle.corb_sniff.specs.HtmlGrammar.{is_html, is_lower_html}
use Rattle.corb_sniff.specs.HtmlSamples.{html_sample}
use Rattle.corb_sniff.specs.declared.html.HtmlState.{HtmlState}
use Rattle.corb_sniff.specs.declared.html.HtmlState.TheVariants.{Begun}
use Rattle.corb_sniff.specs.declared.tag.Tag.{Tag}
use Rattle.corb_sniff.specs.declared.tag.Tag.TheVariants.{Doctype}

front-lower : (tag : Tag) → map to_ascii_lowercase (front_of tag) ≡ front_of tag
front-lower Doctype = refl
front-lower tag = refl

rest-lower : (tag : Tag) → map to_ascii_lowercase (rest_of tag) ≡ rest_of tag
rest-lower Doctype = refl
rest-lower tag = refl

pub left-lower : (tag : Tag) (k : ℕ) → map to_ascii_lowercase (drop k (rest_of tag)) ≡ drop k (rest_of tag)
left-lower tag k = sym (drop-map to_ascii_lowercase k (rest_of tag)) ∙ ap (drop k) (rest-lower tag)

sample-lower : (state : HtmlState) → map to_ascii_lowercase (html_sample state) ≡ html_sample state
sample-lower (Begun begun) =
    map-append to_ascii_lowercase (front_of begun.tag) (take begun.count (rest_of begun.tag))
    ∙ ap (λ l. l ++ map to_ascii_lowercase (take begun.count (rest_of begun.tag))) (front-lower begun.tag)
    ∙ ap (λ l. front_of begun.tag ++ l) (sym (take-map to_ascii_lowercase begun.count (rest_of begun.tag)) ∙ ap (take begun.count) (rest-lower begun.tag))
sample-lower state = refl

-- behind a sample only the rest is brought to lower case
pub html_behind : (state : HtmlState) (list : List ℕ) → is_html (html_sample state ++ list) ≡ is_lower_html (html_sample state ++ map to_ascii_lowercase list)
unfolding is_html
html_behind state list =
    ap is_lower_html (map-append to_ascii_lowercase (html_sample state) list ∙ ap (λ l. l ++ map to_ascii_lowercase list) (sample-lower state))

pub html_of_sample : (state : HtmlState) → is_html (html_sample state) ≡ is_lower_html (html_sample state)
unfolding is_html
html_of_sample state = ap is_lower_html (sample-lower state)

-- a step by the byte in lower case is a step by the byte
pub AreAlike_in_lower_case : (a b : HtmlState) (byte low : ℕ) → low ≡ to_ascii_lowercase byte → AreAlike is_lower_html (html_sample a ++ low ∷ []) (html_sample b) → AreAlike is_html (html_sample a ++ byte ∷ []) (html_sample b)
AreAlike_in_lower_case a b byte low e step more =
    ap is_html (append_assoc (html_sample a) (byte ∷ []) more) ∙ html_behind a (byte ∷ more)
    ∙ ap (λ x. is_lower_html (html_sample a ++ x ∷ map to_ascii_lowercase more)) (sym e)
    ∙ ap is_lower_html (sym (append_assoc (html_sample a) (low ∷ []) (map to_ascii_lowercase more)))
    ∙ step (map to_ascii_lowercase more) ∙ sym (html_behind b more)

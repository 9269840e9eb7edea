-- Each state but `Missed` has something that could follow and meets the grammar.
use Rattle.std.proofs.Common.{◌≡◌, ℕ, suc, zero, ◌<◌, false, List, [], ◌∷◌, ◌++◌, length, map, take, drop, codes, refl, sym, ap, ◌∙◌, append-nil, arith}
use Rattle.std.proofs.lemmas.Bool.{true≢false}
use Rattle.corb_sniff.specs.Fronts.{begins}
use Rattle.corb_sniff.specs.Continuations.{IsHopeless}
use Rattle.corb_sniff.specs.TagParts.{front_of, rest_of}
use Rattle.corb_sniff.specs.HtmlGrammar.{is_html, is_lower_html, holds_within, holds_behind_blanks}
use Rattle.corb_sniff.specs.HtmlSamples.{html_sample}
use Rattle.corb_sniff.proofs.Words.{begins-self}
use Rattle.corb_sniff.proofs.HtmlLemmas.{html-begun, html_missed}
use Rattle.corb_sniff.proofs.HtmlCase.{html_behind, left-lower}
use Rattle.std.specs.Char.{to_ascii_lowercase}
use Rattle.corb_sniff.specs.declared.html.HtmlState.{HtmlState}
use Rattle.corb_sniff.specs.declared.html.HtmlState.TheVariants.{Blank, Open, Bang, BangDash, LetterH, LetterS, LetterT, Begun, Comment, Dash, Dashes, Met, Missed}
use Rattle.corb_sniff.specs.declared.tag.Tag.{Tag}

begins-none : (word : List ℕ) (k : ℕ) → k < length word → begins (drop k word) [] ≡ false
begins-none [] k h = absurd (omega arith)
begins-none (w ∷ word) zero h = refl
begins-none (w ∷ word) (suc k) h = begins-none word k (omega arith)

-- a begun tag isn't a whole one
pub html_unmet : (tag : Tag) (k : ℕ) → k < length (rest_of tag) → is_lower_html (front_of tag ++ take k (rest_of tag)) ≡ false
html_unmet tag k h =
    ap is_lower_html (sym (append-nil (front_of tag ++ take k (rest_of tag))))
    ∙ html-begun tag k [] ∙ begins-none (rest_of tag) k h

-- what could follow
html_way : HtmlState → List ℕ
html_way Blank = codes "<a"
html_way Open = codes "a"
html_way Bang = codes "doctype html"
html_way BangDash = codes "---><a"
html_way LetterH = codes "1"
html_way LetterS = codes "tyle"
html_way LetterT = codes "able"
html_way (Begun begun) = drop begun.count (rest_of begun.tag)
html_way Comment = codes "--><a"
html_way Dash = codes "-><a"
html_way Dashes = codes "><a"
html_way Met = []
html_way Missed = []

pub html_hope : (state : HtmlState) → IsHopeless is_html (html_sample state) → state ≡ Missed
unfolding is_html is_lower_html holds_behind_blanks holds_within html_way
html_hope Missed hopeless = refl
html_hope (Begun begun) hopeless =
    let left = drop begun.count (rest_of begun.tag) in
    absurd (true≢false (sym (html_behind (Begun begun) left
    ∙ ap (λ l. is_lower_html (front_of begun.tag ++ take begun.count (rest_of begun.tag) ++ l)) (left-lower begun.tag begun.count)
    ∙ html-begun begun.tag begun.count left ∙ begins-self left)
    ∙ hopeless left))
html_hope state hopeless = absurd (true≢false (hopeless (html_way state)))

pub html_hopeless : IsHopeless is_html (html_sample Missed)
unfolding is_html
html_hopeless more = html_missed (map to_ascii_lowercase more)

-- What is HTML behind the front of a comment, of a tag, and of anything else.
use Rattle.std.proofs.Common.{◌≡◌, ◌≢◌, ◌&&◌, get_or, append_assoc, eq-eqb, ℕ, zero, suc, ◌<◌, ◌+◌, Bool, true, false, ◌||◌, List, [], ◌∷◌, ◌++◌, length, take, drop, refl, ap, ◌∙◌, arith}
use Rattle.std.specs.Option.{option_map_or}
use Rattle.std.proofs.lemmas.Bool.{ne_eqb}
use Rattle.corb_sniff.specs.Fronts.{begins}
use Rattle.corb_sniff.specs.TagParts.{front_of, rest_of}
use Rattle.corb_sniff.specs.declared.tag.Tag.{Tag}
use Rattle.corb_sniff.specs.declared.tag.Tag.TheVariants.{Doctype}
use Rattle.corb_sniff.specs.HtmlGrammar.{begins_with_tag, after_comment_end, after_blank, is_lower_html}
use Rattle.corb_sniff.proofs.Blanks.{blanks-unfold}

-- HTML is a tag in front, or HTML behind one white byte or comment
pub html-unfold : (list : List ℕ) → is_lower_html list ≡ (begins_with_tag list || option_map_or is_lower_html (after_blank list) false)
unfolding is_lower_html
html-unfold list = blanks-unfold begins_with_tag list

-- what begins with `<!--` is HTML exactly where what is left behind the comment is
pub html_comment : (list : List ℕ) → is_lower_html (60 ∷ 33 ∷ 45 ∷ 45 ∷ list) ≡ option_map_or is_lower_html (after_comment_end list) false
html_comment list = html-unfold (60 ∷ 33 ∷ 45 ∷ 45 ∷ list)

or_falses : (x : Bool) → (x || false || false) ≡ x
or_falses true = refl
or_falses false = refl

-- once the front of a tag has come, only its rest counts
pub html_front : (tag : Tag) (list : List ℕ) → is_lower_html (front_of tag ++ list) ≡ begins (rest_of tag) list
html_front Doctype list = html-unfold (front_of Doctype ++ list) ∙ or_falses (begins (rest_of Doctype) list)
html_front tag list = html-unfold (front_of tag ++ list) ∙ or_falses (begins (rest_of tag) list)

pub html_met : (list : List ℕ) → is_lower_html (60 ∷ 97 ∷ list) ≡ true
html_met list = html-unfold (60 ∷ 97 ∷ list)

pub html_missed : (list : List ℕ) → is_lower_html (120 ∷ list) ≡ false
html_missed list = html-unfold (120 ∷ list)

begins-past : (word : List ℕ) (k : ℕ) (list : List ℕ) → begins word (take k word ++ list) ≡ begins (drop k word) list
begins-past word zero list = refl
begins-past [] (suc k) list = refl
begins-past (w ∷ word) (suc k) list = ap (λ x. x && begins word (take k word ++ list)) (eq-eqb w w refl) ∙ begins-past word k list

-- of a begun tag only the rest counts
pub html-begun : (tag : Tag) (k : ℕ) (list : List ℕ) → is_lower_html (front_of tag ++ take k (rest_of tag) ++ list) ≡ begins (drop k (rest_of tag)) list
html-begun tag k list =
    ap is_lower_html (append_assoc (front_of tag) (take k (rest_of tag)) list)
    ∙ html_front tag (take k (rest_of tag) ++ list) ∙ begins-past (rest_of tag) k list

begins-other : (word : List ℕ) (k b : ℕ) (list : List ℕ) → k < length word → b ≢ get_or word k 0 → begins (drop k word) (b ∷ list) ≡ false
begins-other [] k b list h ne = absurd (omega arith)
begins-other (w ∷ word) zero b list h ne = ap (λ x. x && begins word list) (ne_eqb b w ne)
begins-other (w ∷ word) (suc k) b list h ne = begins-other word k b list (omega arith) ne

begins-last : (word : List ℕ) (k b : ℕ) (list : List ℕ) → k + 1 ≡ length word → b ≡ get_or word k 0 → begins (drop k word) (b ∷ list) ≡ true
begins-last [] k b list h e = absurd (omega arith)
begins-last (w ∷ []) zero b list h e = ap (λ x. x && true) (eq-eqb b w e)
begins-last (w ∷ v ∷ word) zero b list h e = absurd (omega arith)
begins-last (w ∷ word) (suc k) b list h e = begins-last word k b list (omega arith) e

-- a tag that goes on otherwise
pub tag_missed : (tag : Tag) (k b : ℕ) (list : List ℕ) → k < length (rest_of tag) → b ≢ get_or (rest_of tag) k 0 → is_lower_html (front_of tag ++ take k (rest_of tag) ++ b ∷ [] ++ list) ≡ false
tag_missed tag k b list h ne =
    ap is_lower_html (append_assoc (front_of tag ++ take k (rest_of tag)) (b ∷ []) list)
    ∙ html-begun tag k (b ∷ list) ∙ begins-other (rest_of tag) k b list h ne

-- a tag whose last byte comes
pub tag_met : (tag : Tag) (k b : ℕ) (list : List ℕ) → k + 1 ≡ length (rest_of tag) → b ≡ get_or (rest_of tag) k 0 → is_lower_html (front_of tag ++ take k (rest_of tag) ++ b ∷ [] ++ list) ≡ true
tag_met tag k b list h e =
    ap is_lower_html (append_assoc (front_of tag ++ take k (rest_of tag)) (b ∷ []) list)
    ∙ html-begun tag k (b ∷ list) ∙ begins-last (rest_of tag) k b list h e

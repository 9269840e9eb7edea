-- No list meets two grammars or prefixes: what stands behind its white space shows which it can be.
use Rattle.std.proofs.Common.{◌≡◌, ◌≢◌, ℕ, ◌<◌, inl, inr, true, false, ◌&&◌, ◌||◌, cond, eqb, Option, Some, None, List, [], ◌∷◌, map, codes, refl, sym, ap, subst, ◌∙◌, arith, lit<}
use Rattle.std.specs.Option.{is_some}
use Rattle.std.specs.Char.{to_ascii_lowercase}
use Rattle.std.proofs.lemmas.Bool.{false≢true, and_parts, or_cases, cases_eq, cases_Bool, eqb-true, ne_eqb, false_from_ne_true}
use Rattle.std.proofs.lemmas.Bool.Decides.{nat_tests}
use Rattle.corb_sniff.specs.Fronts.{is_white, begins, after_white, after_byte}
use Rattle.corb_sniff.specs.XmlGrammar.{is_xml}
use Rattle.call_answers.specs.Chains.{◌>>=◌}
use Rattle.corb_sniff.specs.JsonGrammar.{is_json}
use Rattle.corb_sniff.specs.ScriptPrefixes.{has_prefix}
use Rattle.corb_sniff.specs.HtmlGrammar.{holds_within, holds_behind_blanks, is_lower_html, is_html}
use Rattle.corb_sniff.specs.Confirmation.{meets}
use Rattle.corb_sniff.proofs.HtmlLemmas.{html-unfold}
use Rattle.corb_sniff.specs.declared.kind.Sniffed.{Sniffed}
use Rattle.corb_sniff.specs.declared.kind.Sniffed.TheVariants.{Html, Xml, Json, Prefix}

-- what a list can be that begins so
shown : List ℕ → Option Sniffed
shown [] = None
shown (b ∷ list) =
    cond (eqb b 60) (cond (begins (63 ∷ []) list) (Some Xml) (Some Html))
    (cond (eqb b 123) (cond (begins (125 ∷ []) list) (Some Prefix) (Some Json))
    (cond (eqb b 41 || eqb b 102) (Some Prefix) None))

begins-head : (w b : ℕ) (word list : List ℕ) → begins (w ∷ word) (b ∷ list) ≡ true → (b ≡ w) × (begins word list ≡ true)
begins-head w b word list h =
    let parts = and_parts (eqb b w) (begins word list) h in
    (eqb-true b w parts.0, parts.1)

xml-shown : (list : List ℕ) → begins (codes "<?xml") list ≡ true → shown list ≡ Some Xml
unfolding shown
xml-shown [] h = absurd (false≢true h)
xml-shown (b ∷ []) h = absurd (false≢true (begins-head 60 b (codes "?xml") [] h).1)
xml-shown (b ∷ c ∷ list) h =
    let first = begins-head 60 b (codes "?xml") (c ∷ list) h in
    let second = begins-head 63 c (codes "xml") list first.1 in
    subst (λ (x : ℕ). shown (x ∷ c ∷ list) ≡ Some Xml) (sym first.0)
    (subst (λ (x : ℕ). shown (60 ∷ x ∷ list) ≡ Some Xml) (sym second.0) refl)

no_brace : (list : List ℕ) (f : List ℕ → Option (List ℕ)) → is_some (after_byte 34 (after_white list) >>= f) ≡ true → begins (125 ∷ []) list ≡ false
no_brace [] f h = refl
no_brace (c ∷ list) f h =
    elim (cases_eq c 125) [
      | inl e ↦ absurd (false≢true (subst (λ (x : ℕ). is_some (after_byte 34 (after_white (x ∷ list)) >>= f) ≡ true) e h))
      | inr ne ↦ ap (λ x. x && true) (ne_eqb c 125 ne)
    ]

json-shown : (list : List ℕ) (f : List ℕ → Option (List ℕ)) → is_some (after_byte 123 list >>= λ object. after_byte 34 (after_white object) >>= f) ≡ true → shown list ≡ Some Json
unfolding shown
json-shown [] f h = absurd (false≢true h)
json-shown (b ∷ list) f h =
    elim (cases_eq b 123) [
      | inl e ↦ subst (λ (x : ℕ). shown (x ∷ list) ≡ Some Json) (sym e)
          (ap (λ t. cond t (Some Prefix) (Some Json))
          (no_brace list f (subst (λ (x : ℕ). is_some (after_byte 123 (x ∷ list) >>= λ object. after_byte 34 (after_white object) >>= f) ≡ true) e h)))
      | inr ne ↦ absurd (false≢true (sym (ap (λ t. is_some (cond t (Some list) None >>= λ object. after_byte 34 (after_white object) >>= f)) (ne_eqb b 123 ne)) ∙ h))
    ]

brace-shown : (list : List ℕ) → begins (codes "}&&") list ≡ true → shown (123 ∷ list) ≡ Some Prefix
unfolding shown
brace-shown [] h = absurd (false≢true h)
brace-shown (c ∷ list) h = subst (λ (x : ℕ). shown (123 ∷ x ∷ list) ≡ Some Prefix) (sym (begins-head 125 c (codes "&&") list h).0) refl

prefix-shown : (list : List ℕ) → has_prefix list ≡ true → shown (after_white list) ≡ Some Prefix
unfolding shown has_prefix
prefix-shown [] h = absurd (false≢true h)
prefix-shown (b ∷ list) h =
    let P : ℕ → Type 0 = λ x. shown (after_white (x ∷ list)) ≡ Some Prefix in
    elim (or_cases _ _ h) [
      | inl paren ↦ subst P (sym (begins-head 41 b (codes "]}'") list paren).0) refl
      | inr others ↦ elim (or_cases _ _ others) [
        | inl brace ↦
            let parts = begins-head 123 b (codes "}&&") list brace in
            subst P (sym parts.0) (brace-shown list parts.1)
        | inr last ↦ elim (or_cases _ _ last) [
          | inl loop ↦ subst P (sym (begins-head 102 b (codes "or(;;);") list loop).0) refl
          | inr none ↦ absurd (false≢true none)
        ]
      ]
    ]

white_cases : (b : ℕ) (P : ℕ → Type 0) → P 32 → P 9 → P 13 → P 10 → is_white b ≡ true → P b
white_cases b P space tab return feed h =
    elim (or_cases _ _ h) [
      | inl h3 ↦ elim (or_cases _ _ h3) [
        | inl h2 ↦ elim (or_cases _ _ h2) [
          | inl h1 ↦ subst P (sym (eqb-true b 32 h1)) space
          | inr h1 ↦ subst P (sym (eqb-true b 9 h1)) tab
        ]
        | inr h2 ↦ subst P (sym (eqb-true b 13 h2)) return
      ]
      | inr h3 ↦ subst P (sym (eqb-true b 10 h3)) feed
    ]

html_white : (b : ℕ) (list : List ℕ) → is_white b ≡ true → is_html (b ∷ list) ≡ is_html list
unfolding is_html is_lower_html holds_behind_blanks holds_within
html_white b list h = white_cases b (λ x. is_html (x ∷ list) ≡ is_html list) refl refl refl refl h

-- no letter becomes a byte below 65
lower-is : (b x : ℕ) → x < 65 → to_ascii_lowercase b ≡ x → b ≡ x
lower-is b x small e = grind (arith, nat_tests)

white_lower : (b : ℕ) → is_white b ≡ false → is_white (to_ascii_lowercase b) ≡ false
white_lower b h =
    let P : ℕ → Type 0 = λ x. to_ascii_lowercase b ≡ x → ⊥ in
    let refuse : (x : ℕ) → x < 65 → is_white x ≡ true → P x = λ x small w e. false≢true (sym h ∙ ap is_white (lower-is b x small e) ∙ w) in
    false_from_ne_true (is_white (to_ascii_lowercase b))
    (λ w. white_cases (to_ascii_lowercase b) P (refuse 32 (lit< tt) refl) (refuse 9 (lit< tt) refl) (refuse 13 (lit< tt) refl) (refuse 10 (lit< tt) refl) w refl)

html_other : (b : ℕ) (list : List ℕ) → is_white b ≡ false → b ≢ 60 → is_lower_html (b ∷ list) ≡ false
html_other b list white ne =
    let open_not : eqb b 60 ≡ false = ne_eqb b 60 ne in
    html-unfold (b ∷ list) ∙ rw (open_not, white) refl

no_question : (list : List ℕ) → is_html (60 ∷ list) ≡ true → begins (63 ∷ []) list ≡ false
unfolding is_html is_lower_html holds_behind_blanks holds_within
no_question [] h = refl
no_question (c ∷ list) h =
    elim (cases_eq c 63) [
      | inl e ↦ absurd (false≢true (subst (λ (x : ℕ). is_html (60 ∷ x ∷ list) ≡ true) e h))
      | inr ne ↦ ap (λ x. x && true) (ne_eqb c 63 ne)
    ]

open-shown : (b : ℕ) (list : List ℕ) → is_white b ≡ false → is_html (b ∷ list) ≡ true → shown (b ∷ list) ≡ Some Html
unfolding shown is_html
open-shown b list white h =
    elim (cases_eq b 60) [
      | inl e ↦ subst (λ (x : ℕ). shown (x ∷ list) ≡ Some Html) (sym e)
          (ap (λ t. cond t (Some Xml) (Some Html)) (no_question list (subst (λ (x : ℕ). is_html (x ∷ list) ≡ true) e h)))
      | inr ne ↦ absurd (false≢true (sym (html_other (to_ascii_lowercase b) (map to_ascii_lowercase list) (white_lower b white) (λ e. ne (lower-is b 60 (lit< tt) e))) ∙ h))
    ]

html-shown : (list : List ℕ) → is_html list ≡ true → shown (after_white list) ≡ Some Html
unfolding is_html is_lower_html holds_behind_blanks holds_within
html-shown [] h = absurd (false≢true h)
html-shown (b ∷ list) h =
    elim (cases_Bool (is_white b)) [
      | inl white ↦ ap (λ t. shown (cond t (after_white list) (b ∷ list))) white ∙ html-shown list (sym (html_white b list white) ∙ h)
      | inr other ↦ ap (λ t. shown (cond t (after_white list) (b ∷ list))) other ∙ open-shown b list other h
    ]

meets-shown : (sniffed : Sniffed) (list : List ℕ) → meets sniffed list ≡ true → shown (after_white list) ≡ Some sniffed
unfolding is_xml is_json
meets-shown Html list h = html-shown list h
meets-shown Xml list h = xml-shown (after_white list) h
meets-shown Json list h = json-shown (after_white list) _ h
meets-shown Prefix list h = prefix-shown list h

pub one_met : (a b : Sniffed) (list : List ℕ) → meets a list ≡ true → meets b list ≡ true → a ≡ b
one_met a b list h k = let e = meets-shown a list h in let f = meets-shown b list k in cc

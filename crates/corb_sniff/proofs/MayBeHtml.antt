-- A list may be HTML exactly where some continuation is.
use Rattle.std.proofs.Common.{◌≡◌, ℕ, zero, suc, ◌≤◌, Bool, true, false, cond, eqb, ◌&&◌, Option, Some, None, List, [], ◌∷◌, ◌++◌, length, map, drop, codes, refl, sym, ap, ◌∙◌, inl, inr, append_assoc, subst, ◌<◌, arith}
use Rattle.std.specs.Option.{option_map_or, is_none}
use Rattle.std.specs.Char.{to_ascii_lowercase}
use Rattle.std.proofs.lemmas.Bool.{false≢true, eqb-true, and_parts, and_from, or_cases, or_left, or_right}
use Rattle.std.proofs.lemmas.List.{map-append, drop-map}
use Rattle.corb_sniff.specs.Fronts.{is_white, begins}
use Rattle.corb_sniff.specs.HtmlGrammar.{tags, after_comment_end, after_blank, holds_within, holds_behind_blanks, is_lower_html, is_html}
use Rattle.corb_sniff.specs.Hope.{may_be_tag, may_be_html}
use Rattle.corb_sniff.proofs.Words.{AreLower, LowerWay, some_agrees, some_begins, agrees_before, agrees_cases}
use Rattle.corb_sniff.proofs.Blanks.{IsShort, IsShort-after_blank}
use Rattle.corb_sniff.proofs.HtmlLemmas.{html-unfold, html_comment}
use Rattle.corb_sniff.proofs.Longer.{Longer, after_blank-longer}

tags-lower : AreLower tags
unfolding AreLower
tags-lower =
    (refl, (refl, (refl, (refl, (refl, (refl, (refl, (refl, (refl, (refl, (refl, (refl, (refl, (refl, tt))))))))))))))

-- a test that holds in front holds within any number of white bytes and comments
in_front : (test : List ℕ → Bool) (n : ℕ) (list : List ℕ) → test list ≡ true → holds_within test n list ≡ true
unfolding holds_within
in_front test zero list h = h
in_front test (suc n) list h = or_left _ _ h

-- what makes `<!--` stand in front of a longer list is a beginning of it, or an open comment
comment_before : (list more : List ℕ) → begins (codes "<!--") (list ++ more) ≡ true → (begins (codes "<!--") list ≡ true → is_none (after_comment_end (drop 4 list)) ≡ true) → may_be_tag list ≡ true
comment_before list more h unended =
    elim (agrees_cases (codes "<!--") list (agrees_before (codes "<!--") list more h)) [
      | inl whole ↦ or_right _ _ (or_right _ _ (and_from _ (is_none (after_comment_end (drop 4 list))) whole (unended whole)))
      | inr part ↦ or_right _ _ (or_left _ _ part)
    ]

none_left : (white opens : Bool) (list : List ℕ) (left : Option (List ℕ)) → cond white (Some list) (cond opens left None) ≡ None → opens ≡ true → is_none left ≡ true
none_left true opens list left e is = cc
none_left false true list left e is = ap is_none e
none_left false false list left e is = absurd (false≢true is)

comes_open : (white opens opens' : Bool) (list list' : List ℕ) (left left' : Option (List ℕ)) (test : List ℕ → Bool) → cond white (Some list) (cond opens left None) ≡ None → option_map_or test (cond white (Some list') (cond opens' left' None)) false ≡ true → opens' ≡ true
comes_open true opens opens' list list' left left' test e h = cc
comes_open false opens true list list' left left' test e h = refl
comes_open false opens false list list' left left' test e h = absurd (false≢true h)

-- where neither a white byte nor a whole comment stands in front, but does once more has come, a comment has begun
blank_before : (test : List ℕ → Bool) (list more : List ℕ) → after_blank list ≡ None → option_map_or test (after_blank (list ++ more)) false ≡ true → may_be_tag list ≡ true
blank_before test [] more e h = refl
blank_before test (b ∷ list) more e h =
    comment_before (b ∷ list) more
    (comes_open (is_white b) (begins (codes "<!--") (b ∷ list)) (begins (codes "<!--") (b ∷ (list ++ more))) list (list ++ more) (after_comment_end (drop 3 list)) (after_comment_end (drop 3 (list ++ more))) test e h)
    (none_left (is_white b) (begins (codes "<!--") (b ∷ list)) list (after_comment_end (drop 3 list)) e)

behind_blank : (n : ℕ) (list more : List ℕ) (left : Option (List ℕ)) → after_blank list ≡ left → length list ≤ suc n → ((rest : List ℕ) → length rest ≤ n → is_lower_html (rest ++ more) ≡ true → holds_within may_be_tag n rest ≡ true) → option_map_or is_lower_html (after_blank (list ++ more)) false ≡ true → holds_within may_be_tag (suc n) list ≡ true
unfolding holds_within Longer IsShort
behind_blank n list more None e short shorter h = or_left _ _ (blank_before is_lower_html list more e h)
behind_blank n list more (Some rest) e short shorter h =
    let less : length rest < length list = subst (λ (o : Option (List ℕ)). IsShort (length list) o) e (IsShort-after_blank list) in
    let html = sym (ap (λ o. option_map_or is_lower_html o false) (after_blank-longer list more rest e)) ∙ h in
    or_right _ _ (ap (λ o. option_map_or (holds_within may_be_tag n) o false) e ∙ shorter rest (omega arith) html)

-- where a longer list is HTML, the list may be
html_before : (n : ℕ) (list more : List ℕ) → length list ≤ n → is_lower_html (list ++ more) ≡ true → holds_within may_be_tag n list ≡ true
html_before zero [] more short h = in_front may_be_tag zero [] refl
html_before zero (b ∷ list) more short h = absurd (omega arith)
html_before (suc n) list more short h =
    elim (or_cases _ _ (sym (html-unfold (list ++ more)) ∙ h)) [
      | inl tag ↦ in_front may_be_tag (suc n) list (or_left _ _ (some_agrees tags list more tag))
      | inr behind ↦
          behind_blank n list more (after_blank list) refl short (λ rest less html. html_before n rest more less html) behind
    ]

pub may_be_html_before : (list more : List ℕ) → is_html (list ++ more) ≡ true → may_be_html list ≡ true
unfolding is_html may_be_html holds_behind_blanks
may_be_html_before list more h =
    let low = map to_ascii_lowercase list in
    html_before (length low) low (map to_ascii_lowercase more) (omega arith)
    (sym (ap is_lower_html (map-append to_ascii_lowercase list more)) ∙ h)

-- what is left of the longer of two lists, of which one begins the other
begins-rest : (word list : List ℕ) → begins word list ≡ true → word ++ drop (length word) list ≡ list
begins-rest [] list h = refl
begins-rest (w ∷ word) [] h = absurd (false≢true h)
begins-rest (w ∷ word) (b ∷ list) h =
    let parts = and_parts (eqb b w) (begins word list) h in
    ap (λ l. w ∷ l) (begins-rest word list parts.1) ∙ ap (λ x. x ∷ list) (sym (eqb-true b w parts.0))

-- of an open comment nothing is its end
not_here : (t : Bool) (x o : Option (List ℕ)) → t ≡ false → cond t x o ≡ o
not_here true x o e = absurd (false≢true (sym e))
not_here false x o e = refl

no_end : (t : Bool) (x : List ℕ) (o : Option (List ℕ)) → cond t (Some x) o ≡ None → (t ≡ false) × (o ≡ None)
no_end true x o e = cc
no_end false x o e = (refl, e)

and-false : (x : Bool) → (x && false) ≡ false
and-false true = refl
and-false false = refl

-- a comment that is open ends where `-->` comes
after_comment_end-closed : (list more : List ℕ) → after_comment_end list ≡ None → after_comment_end (list ++ 45 ∷ 45 ∷ 62 ∷ more) ≡ Some more
after_comment_end-closed [] more unended = refl
after_comment_end-closed (b ∷ []) more unended =
    not_here (eqb b 45 && false) _ (Some more) (and-false (eqb b 45))
after_comment_end-closed (b ∷ c ∷ []) more unended =
    not_here (eqb b 45 && (eqb c 45 && false)) _ _ (ap (λ x. eqb b 45 && x) (and-false (eqb c 45)) ∙ and-false (eqb b 45))
    ∙ not_here (eqb c 45 && false) _ (Some more) (and-false (eqb c 45))
after_comment_end-closed (b ∷ c ∷ d ∷ list) more unended =
    let parts = no_end (begins (codes "-->") (b ∷ c ∷ d ∷ list)) _ (after_comment_end (c ∷ d ∷ list)) unended in
    not_here (begins (codes "-->") (b ∷ c ∷ d ∷ list)) _ _ parts.0 ∙ after_comment_end-closed (c ∷ d ∷ list) more parts.1

-- what is left of `<!--`, the end of the comment and a tag
comment_begun : (list : List ℕ) → begins list (codes "<!--") ≡ true → LowerWay is_lower_html list
unfolding is_lower_html holds_behind_blanks holds_within
comment_begun list h =
    let left = drop (length list) (codes "<!--") in
    record {
      more = left ++ codes "--><a";
      lower =
          map-append to_ascii_lowercase left (codes "--><a")
          ∙ ap (λ l. l ++ codes "--><a") (sym (drop-map to_ascii_lowercase (length list) (codes "<!--")));
      holds =
          ap is_lower_html (sym (append_assoc list left (codes "--><a")))
          ∙ ap (λ l. is_lower_html (l ++ codes "--><a")) (begins-rest list (codes "<!--") h);
    }

comment_open : (list : List ℕ) (left : Option (List ℕ)) → after_comment_end (drop 4 list) ≡ left → begins (codes "<!--") list ≡ true → is_none left ≡ true → LowerWay is_lower_html list
unfolding is_lower_html holds_behind_blanks holds_within
comment_open list (Some rest) e whole h = absurd (false≢true h)
comment_open list None e whole h = record {
  more = codes "--><a";
  lower = refl;
  holds =
      ap (λ l. is_lower_html (l ++ codes "--><a")) (sym (begins-rest (codes "<!--") list whole))
      ∙ html_comment (drop 4 list ++ codes "--><a")
      ∙ ap (λ o. option_map_or is_lower_html o false) (after_comment_end-closed (drop 4 list) (codes "<a") e);
}

in_front_continued : (list : List ℕ) → may_be_tag list ≡ true → LowerWay is_lower_html list
in_front_continued list h =
    elim (or_cases _ _ h) [
      | inl tag ↦
          let way = some_begins tags list tags-lower tag in
          record { more = way.more; lower = way.lower; holds = html-unfold (list ++ way.more) ∙ or_left _ _ way.holds }
      | inr other ↦ elim (or_cases _ _ other) [
        | inl begun ↦ comment_begun list begun
        | inr unended ↦
            let parts = and_parts (begins (codes "<!--") list) (is_none (after_comment_end (drop 4 list))) unended in
            comment_open list (after_comment_end (drop 4 list)) refl parts.0 parts.1
      ]
    ]

blank_continued : (n : ℕ) (list : List ℕ) (left : Option (List ℕ)) → after_blank list ≡ left → ((rest : List ℕ) → holds_within may_be_tag n rest ≡ true → LowerWay is_lower_html rest) → option_map_or (holds_within may_be_tag n) left false ≡ true → LowerWay is_lower_html list
unfolding Longer
blank_continued n list None e behind h = absurd (false≢true h)
blank_continued n list (Some rest) e behind h =
    let way = behind rest h in
    record {
      more = way.more;
      lower = way.lower;
      holds =
          html-unfold (list ++ way.more)
          ∙ or_right _ _ (ap (λ o. option_map_or is_lower_html o false) (after_blank-longer list way.more rest e) ∙ way.holds);
    }

html_way_on : (n : ℕ) (list : List ℕ) → holds_within may_be_tag n list ≡ true → LowerWay is_lower_html list
unfolding holds_within
html_way_on zero list h = in_front_continued list h
html_way_on (suc n) list h =
    elim (or_cases _ _ h) [
      | inl front ↦ in_front_continued list front
      | inr behind ↦ blank_continued n list (after_blank list) refl (λ rest passes. html_way_on n rest passes) behind
    ]

pub html_continued : (list : List ℕ) → may_be_html list ≡ true → (more : List ℕ) × (is_html (list ++ more) ≡ true)
unfolding is_html may_be_html holds_behind_blanks
html_continued list h =
    let low = map to_ascii_lowercase list in
    let way = html_way_on (length low) low h in (
      way.more,
      ap is_lower_html (map-append to_ascii_lowercase list way.more ∙ ap (λ l. low ++ l) way.lower) ∙ way.holds,
    )

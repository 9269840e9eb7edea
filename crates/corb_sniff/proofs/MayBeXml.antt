-- A list may be XML exactly where some continuation is.
use Rattle.std.proofs.Common.{◌≡◌, ℕ, Bool, true, false, cond, List, [], ◌∷◌, ◌++◌, length, drop, codes, refl, ap, ◌∙◌}
use Rattle.corb_sniff.specs.Fronts.{is_white, begins, agrees, after_white}
use Rattle.corb_sniff.specs.XmlGrammar.{is_xml}
use Rattle.corb_sniff.specs.Hope.{may_be_xml}
use Rattle.corb_sniff.proofs.Words.{agrees_before, begins-agreed}

gone_if : (white : Bool) (b : ℕ) (list more left left' : List ℕ) → (left ≡ [] → left' ≡ after_white more) → cond white left (b ∷ list) ≡ [] → cond white left' (b ∷ (list ++ more)) ≡ after_white more
gone_if true b list more left left' h e = h e
gone_if false b list more left left' h e = cc

-- of white space alone nothing is left in front of what follows
pub after_white-gone : (list more : List ℕ) → after_white list ≡ [] → after_white (list ++ more) ≡ after_white more
after_white-gone [] more e = refl
after_white-gone (b ∷ list) more e =
    gone_if (is_white b) b list more (after_white list) (after_white (list ++ more)) (after_white-gone list more) e

kept_if : (white : Bool) (b c : ℕ) (list more rest left left' : List ℕ) → (left ≡ c ∷ rest → left' ≡ left ++ more) → cond white left (b ∷ list) ≡ c ∷ rest → cond white left' (b ∷ (list ++ more)) ≡ cond white left (b ∷ list) ++ more
kept_if true b c list more rest left left' h e = h e
kept_if false b c list more rest left left' h e = refl

-- where something is left behind the white space, what follows comes behind that
pub after_white-kept : (list more : List ℕ) (c : ℕ) (rest : List ℕ) → after_white list ≡ c ∷ rest → after_white (list ++ more) ≡ after_white list ++ more
after_white-kept [] more c rest e = cc
after_white-kept (b ∷ list) more c rest e =
    kept_if (is_white b) b c list more rest (after_white list) (after_white (list ++ more)) (after_white-kept list more c rest) e

agrees_if : (white : Bool) (w b : ℕ) (word list more left left' : List ℕ) → (begins (w ∷ word) left' ≡ true → agrees (w ∷ word) left ≡ true) → begins (w ∷ word) (cond white left' (b ∷ (list ++ more))) ≡ true → agrees (w ∷ word) (cond white left (b ∷ list)) ≡ true
agrees_if true w b word list more left left' h e = h e
agrees_if false w b word list more left left' h e = agrees_before (w ∷ word) (b ∷ list) more e

white_agrees : (w : ℕ) (word list more : List ℕ) → begins (w ∷ word) (after_white (list ++ more)) ≡ true → agrees (w ∷ word) (after_white list) ≡ true
white_agrees w word [] more h = refl
white_agrees w word (b ∷ list) more h =
    agrees_if (is_white b) w b word list more (after_white list) (after_white (list ++ more)) (white_agrees w word list more) h

pub may_be_xml_before : (list more : List ℕ) → is_xml (list ++ more) ≡ true → may_be_xml list ≡ true
unfolding is_xml may_be_xml
may_be_xml_before list more h = white_agrees 60 (codes "?xml") list more h

xml_behind : (list left : List ℕ) → after_white list ≡ left → agrees (codes "<?xml") left ≡ true → (more : List ℕ) × (begins (codes "<?xml") (after_white (list ++ more)) ≡ true)
xml_behind list [] e h = (codes "<?xml", ap (begins (codes "<?xml")) (after_white-gone list (codes "<?xml") e))
xml_behind list (c ∷ rest) e h =
    let more = drop (length (c ∷ rest)) (codes "<?xml") in (
      more,
      ap (begins (codes "<?xml")) (after_white-kept list more c rest e ∙ ap (λ l. l ++ more) e)
          ∙ begins-agreed (codes "<?xml") (c ∷ rest) h,
    )

pub xml_continued : (list : List ℕ) → may_be_xml list ≡ true → (more : List ℕ) × (is_xml (list ++ more) ≡ true)
unfolding is_xml may_be_xml
xml_continued list h = xml_behind list (after_white list) refl h

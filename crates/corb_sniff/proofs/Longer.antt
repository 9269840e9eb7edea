-- What meets a grammar or begins with a prefix still does when more comes behind it.
use Rattle.std.proofs.Common.{◌≡◌, ℕ, zero, suc, ◌≤◌, Bool, true, false, ◌&&◌, ◌||◌, cond, eqb, leb, Option, Some, None, List, [], ◌∷◌, ◌++◌, length, map, drop, codes, refl, sym, ap, subst, ◌∙◌, arith, length-append}
use Rattle.std.specs.Option.{option_map_or, is_some}
use Rattle.std.specs.List.{list_any}
use Rattle.std.specs.Char.{to_ascii_lowercase}
use Rattle.std.proofs.lemmas.Bool.{false≢true, and_parts, and_from, or_left, or_right}
use Rattle.std.proofs.lemmas.List.{map-append, drop-append-le}
use Rattle.corb_sniff.specs.Fronts.{is_white, begins, after_white, after_byte}
use Rattle.corb_sniff.specs.XmlGrammar.{is_xml}
use Rattle.call_answers.specs.Chains.{◌>>=◌}
use Rattle.corb_sniff.specs.JsonGrammar.{after_string, after_escape, is_json}
use Rattle.corb_sniff.specs.ScriptPrefixes.{script_prefixes, has_prefix}
use Rattle.corb_sniff.specs.HtmlGrammar.{tags, begins_with_tag, after_comment_end, after_blank, holds_within, holds_behind_blanks, is_lower_html, is_html}
use Rattle.corb_sniff.specs.Confirmation.{meets}
use Rattle.corb_sniff.specs.declared.kind.Sniffed.{Sniffed}
use Rattle.corb_sniff.specs.declared.kind.Sniffed.TheVariants.{Html, Xml, Json, Prefix}

begins-longer : (word list more : List ℕ) → begins word list ≡ true → begins word (list ++ more) ≡ true
begins-longer [] list more h = refl
begins-longer (w ∷ word) [] more h = absurd (false≢true h)
begins-longer (w ∷ word) (b ∷ list) more h =
    let parts = and_parts _ (begins word list) h in
    and_from _ (begins word (list ++ more)) parts.0 (begins-longer word list more parts.1)

-- What is left behind something in front is left there still, with more behind it.
unfoldable pub Longer : Option (List ℕ) → List ℕ → Option (List ℕ) → Type 0
Longer o more p = (rest : List ℕ) → o ≡ Some rest → p ≡ Some (rest ++ more)

Longer-none : (more : List ℕ) (p : Option (List ℕ)) → Longer None more p
unfolding Longer
Longer-none more p rest h = cc

Longer-some : (rest more : List ℕ) → Longer (Some rest) more (Some (rest ++ more))
unfolding Longer
Longer-some rest more r h = cc

Longer-cond : (b : Bool) (o o' p p' : Option (List ℕ)) (more : List ℕ) → Longer o more p → Longer o' more p' → Longer (cond b o o') more (cond b p p')
Longer-cond true o o' p p' more h k = h
Longer-cond false o o' p p' more h k = k

-- a test that holds still holds; one that fails, before anything is left, still fails
Longer-test : (t t' : Bool) (o o' p p' : Option (List ℕ)) (more : List ℕ) → (t ≡ true → (t' ≡ true) × Longer o more p) → ((rest : List ℕ) → t ≡ false → o' ≡ Some rest → t' ≡ false) → Longer o' more p' → Longer (cond t o o') more (cond t' p p')
unfolding Longer
Longer-test true t' o o' p p' more holds fails k rest h = ap (λ b. cond b p p') (holds refl).0 ∙ (holds refl).1 rest h
Longer-test false t' o o' p p' more holds fails k rest h = ap (λ b. cond b p p') (fails rest refl h) ∙ k rest h

Longer-bind : (o p : Option (List ℕ)) (more : List ℕ) (f : List ℕ → Option (List ℕ)) → Longer o more p → ((rest : List ℕ) → Longer (f rest) more (f (rest ++ more))) → Longer (o >>= f) more (p >>= f)
unfolding Longer
Longer-bind None p more f h k rest e = cc
Longer-bind (Some x) p more f h k rest e = ap (λ q. q >>= f) (h x refl) ∙ k x rest e

Longer-is_some : (o p : Option (List ℕ)) (more : List ℕ) → Longer o more p → is_some o ≡ true → is_some p ≡ true
unfolding Longer
Longer-is_some None p more h e = absurd (false≢true e)
Longer-is_some (Some x) p more h e = ap is_some (h x refl)

white_or : (white : Bool) (byte b : ℕ) (list more left left' : List ℕ) → Longer (after_byte byte left) more (after_byte byte left') → Longer (after_byte byte (cond white left (b ∷ list))) more (after_byte byte (cond white left' (b ∷ (list ++ more))))
white_or true byte b list more left left' h = h
white_or false byte b list more left left' h =
    Longer-cond (eqb b byte) (Some list) None (Some (list ++ more)) None more (Longer-some list more) (Longer-none more None)

pub after_white_byte-longer : (byte : ℕ) (list more : List ℕ) → Longer (after_byte byte (after_white list)) more (after_byte byte (after_white (list ++ more)))
after_white_byte-longer byte [] more = Longer-none more (after_byte byte (after_white more))
after_white_byte-longer byte (b ∷ list) more =
    white_or (is_white b) byte b list more (after_white list) (after_white (list ++ more)) (after_white_byte-longer byte list more)

mutual
  pub after_string-longer : (list more : List ℕ) → Longer (after_string list) more (after_string (list ++ more))
  after_string-longer [] more = Longer-none more (after_string more)
  after_string-longer (b ∷ list) more =
      Longer-cond (eqb b 34) (Some list) _ (Some (list ++ more)) _ more (Longer-some list more)
      (Longer-cond (eqb b 92) (after_escape list) _ (after_escape (list ++ more)) _ more (after_escape-longer list more)
      (Longer-cond (leb 32 b) (after_string list) None (after_string (list ++ more)) None more (after_string-longer list more) (Longer-none more None)))

  after_escape-longer : (list more : List ℕ) → Longer (after_escape list) more (after_escape (list ++ more))
  after_escape-longer [] more = Longer-none more (after_escape more)
  after_escape-longer (b ∷ list) more =
      Longer-cond (leb 32 b) (after_string list) None (after_string (list ++ more)) None more (after_string-longer list more) (Longer-none more None)

is_json-longer : (list more : List ℕ) → is_json list ≡ true → is_json (list ++ more) ≡ true
unfolding is_json
is_json-longer list more =
    Longer-is_some _ _ more
    (Longer-bind (after_byte 123 (after_white list)) (after_byte 123 (after_white (list ++ more))) more _ (after_white_byte-longer 123 list more)
    (λ object. Longer-bind (after_byte 34 (after_white object)) (after_byte 34 (after_white (object ++ more))) more _ (after_white_byte-longer 34 object more)
    (λ string. Longer-bind (after_string string) (after_string (string ++ more)) more _ (after_string-longer string more)
    (λ rest. after_white_byte-longer 58 rest more))))

white_begins : (white : Bool) (w b : ℕ) (word list more left left' : List ℕ) → (begins (w ∷ word) left ≡ true → begins (w ∷ word) left' ≡ true) → begins (w ∷ word) (cond white left (b ∷ list)) ≡ true → begins (w ∷ word) (cond white left' (b ∷ (list ++ more))) ≡ true
white_begins true w b word list more left left' h e = h e
white_begins false w b word list more left left' h e = begins-longer (w ∷ word) (b ∷ list) more e

begins_white-longer : (w : ℕ) (word list more : List ℕ) → begins (w ∷ word) (after_white list) ≡ true → begins (w ∷ word) (after_white (list ++ more)) ≡ true
begins_white-longer w word [] more h = absurd (false≢true h)
begins_white-longer w word (b ∷ list) more h =
    white_begins (is_white b) w b word list more (after_white list) (after_white (list ++ more)) (begins_white-longer w word list more) h

is_xml-longer : (list more : List ℕ) → is_xml list ≡ true → is_xml (list ++ more) ≡ true
unfolding is_xml
is_xml-longer list more h = begins_white-longer 60 (codes "?xml") list more h

or_longer : (x y x' y' : Bool) → (x ≡ true → x' ≡ true) → (y ≡ true → y' ≡ true) → (x || y) ≡ true → (x' || y') ≡ true
or_longer true y x' y' f g h = or_left x' y' (f refl)
or_longer false y x' y' f g h = or_right x' y' (g h)

begins-length : (word list : List ℕ) → begins word list ≡ true → length word ≤ length list
begins-length [] list h = omega arith
begins-length (w ∷ word) [] h = absurd (false≢true h)
begins-length (w ∷ word) (b ∷ list) h =
    let parts = and_parts _ (begins word list) h in
    let rest : length word ≤ length list = begins-length word list parts.1 in
    omega arith

-- a word is looked for in no more bytes than it has
begins-short : (word list more : List ℕ) → length word ≤ length list → begins word (list ++ more) ≡ begins word list
begins-short [] list more h = refl
begins-short (w ∷ word) [] more h = absurd (omega arith)
begins-short (w ∷ word) (b ∷ list) more h = ap (λ x. eqb b w && x) (begins-short word list more (omega arith))

arrow_chosen : (t : Bool) (n : ℕ) (o o' : Option (List ℕ)) (rest : List ℕ) → (t ≡ true → 3 ≤ n) → (o' ≡ Some rest → 3 ≤ n) → cond t o o' ≡ Some rest → 3 ≤ n
arrow_chosen true n o o' rest f g h = f refl
arrow_chosen false n o o' rest f g h = g h

after_comment_end-length : (list rest : List ℕ) → after_comment_end list ≡ Some rest → 3 ≤ length list
after_comment_end-length [] rest h = cc
after_comment_end-length (b ∷ list) rest h =
    arrow_chosen (begins (codes "-->") (b ∷ list)) (suc (length list)) (Some (drop 2 list)) (after_comment_end list) rest
    (begins-length (codes "-->") (b ∷ list))
    (λ e. let shorter : 3 ≤ length list = after_comment_end-length list rest e in omega arith) h

Longer-drop : (n : ℕ) (list more : List ℕ) → n ≤ length list → Longer (Some (drop n list)) more (Some (drop n (list ++ more)))
Longer-drop n list more h =
    subst (λ (l : List ℕ). Longer (Some (drop n list)) more (Some l)) (sym (drop-append-le n list more h)) (Longer-some (drop n list) more)

after_comment_end-longer : (list more : List ℕ) → Longer (after_comment_end list) more (after_comment_end (list ++ more))
after_comment_end-longer [] more = Longer-none more (after_comment_end more)
after_comment_end-longer (b ∷ list) more =
    Longer-test (begins (codes "-->") (b ∷ list)) (begins (codes "-->") (b ∷ (list ++ more))) (Some (drop 2 list)) (after_comment_end list) (Some (drop 2 (list ++ more))) (after_comment_end (list ++ more)) more
    (λ holds. (
      begins-longer (codes "-->") (b ∷ list) more holds,
      let long : 3 ≤ length (b ∷ list) = begins-length (codes "-->") (b ∷ list) holds in
          Longer-drop 2 list more (omega arith),
    ))
    (λ rest fails found.
    let long : 3 ≤ length list = after_comment_end-length list rest found in
    begins-short (codes "-->") (b ∷ list) more (omega arith) ∙ fails)
    (after_comment_end-longer list more)

pub after_blank-longer : (list more : List ℕ) → Longer (after_blank list) more (after_blank (list ++ more))
after_blank-longer [] more = Longer-none more (after_blank more)
after_blank-longer (b ∷ list) more =
    Longer-cond (is_white b) (Some list) _ (Some (list ++ more)) _ more (Longer-some list more)
    (Longer-test (begins (codes "<!--") (b ∷ list)) (begins (codes "<!--") (b ∷ (list ++ more))) (after_comment_end (drop 3 list)) None (after_comment_end (drop 3 (list ++ more))) None more
    (λ holds. (
      begins-longer (codes "<!--") (b ∷ list) more holds,
      let long : 4 ≤ length (b ∷ list) = begins-length (codes "<!--") (b ∷ list) holds in
          let h : 3 ≤ length list = omega arith in
          subst (λ (l : List ℕ). Longer (after_comment_end (drop 3 list)) more (after_comment_end l)) (sym (drop-append-le 3 list more h)) (after_comment_end-longer (drop 3 list) more),
    ))
    (λ rest fails found. cc)
    (Longer-none more None))

list_any-longer : (words : List (List ℕ)) (list more : List ℕ) → list_any (λ tag. begins tag list) words ≡ true → list_any (λ tag. begins tag (list ++ more)) words ≡ true
list_any-longer [] list more h = h
list_any-longer (word ∷ words) list more h =
    or_longer _ _ _ _ (begins-longer word list more) (list_any-longer words list more) h

has_prefix-longer : (list more : List ℕ) → has_prefix list ≡ true → has_prefix (list ++ more) ≡ true
unfolding has_prefix
has_prefix-longer list more h = list_any-longer script_prefixes list more h

map_or-longer : (f : List ℕ → Bool) (o p : Option (List ℕ)) (more : List ℕ) → Longer o more p → ((rest : List ℕ) → f rest ≡ true → f (rest ++ more) ≡ true) → option_map_or f o false ≡ true → option_map_or f p false ≡ true
unfolding Longer
map_or-longer f None p more h k e = absurd (false≢true e)
map_or-longer f (Some x) p more h k e = ap (λ q. option_map_or f q false) (h x refl) ∙ k x e

-- a test that holds of longer lists too does so behind as many white bytes and comments
IsLonger : (List ℕ → Bool) → Type 0
IsLonger test = (list more : List ℕ) → test list ≡ true → test (list ++ more) ≡ true

begins_with_tag-longer : IsLonger begins_with_tag
unfolding IsLonger
begins_with_tag-longer list more h = list_any-longer tags list more h

holds_within-longer : (test : List ℕ → Bool) → IsLonger test → (n : ℕ) (list more : List ℕ) → holds_within test n list ≡ true → holds_within test n (list ++ more) ≡ true
unfolding IsLonger holds_within
holds_within-longer test longer zero list more h = longer list more h
holds_within-longer test longer (suc n) list more h =
    or_longer _ _ _ _ (longer list more)
    (map_or-longer (holds_within test n) (after_blank list) (after_blank (list ++ more)) more (after_blank-longer list more) (λ rest. holds_within-longer test longer n rest more)) h

map_or-implies : (f g : List ℕ → Bool) (o : Option (List ℕ)) → ((rest : List ℕ) → f rest ≡ true → g rest ≡ true) → option_map_or f o false ≡ true → option_map_or g o false ≡ true
map_or-implies f g None k e = e
map_or-implies f g (Some x) k e = k x e

-- a higher bound finds as much
holds_within-higher : (test : List ℕ → Bool) (n k : ℕ) (list : List ℕ) → n ≤ k → holds_within test n list ≡ true → holds_within test k list ≡ true
unfolding holds_within
holds_within-higher test zero zero list le h = h
holds_within-higher test zero (suc k) list le h = or_left _ _ h
holds_within-higher test (suc n) zero list le h = absurd (omega arith)
holds_within-higher test (suc n) (suc k) list le h =
    or_longer _ _ _ _ (λ e. e) (map_or-implies (holds_within test n) (holds_within test k) (after_blank list) (λ rest. holds_within-higher test n k rest (omega arith))) h

is_html-longer : (list more : List ℕ) → is_html list ≡ true → is_html (list ++ more) ≡ true
unfolding is_html is_lower_html holds_behind_blanks
is_html-longer list more h =
    let low = map to_ascii_lowercase list in
    let behind = map to_ascii_lowercase more in
    ap (λ l. holds_within begins_with_tag (length l) l) (map-append to_ascii_lowercase list more)
    ∙ holds_within-higher begins_with_tag (length low) (length (low ++ behind)) (low ++ behind) (omega (arith, length-append low behind))
    (holds_within-longer begins_with_tag begins_with_tag-longer (length low) low behind h)

pub meets-longer : (sniffed : Sniffed) (list more : List ℕ) → meets sniffed list ≡ true → meets sniffed (list ++ more) ≡ true
meets-longer Html list more = is_html-longer list more
meets-longer Xml list more = is_xml-longer list more
meets-longer Json list more = is_json-longer list more
meets-longer Prefix list more = has_prefix-longer list more

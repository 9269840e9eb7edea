-- Laws of `specs/PageUrls.antt`.
use Rattle.url.proofs.OnLiterals.{url_on_literals}
use Rattle.std.specs.Prelude.{nat_lt}
use Rattle.std.proofs.Common.{◌≡◌, ℕ, ◌<◌, ◌≤◌, List, [], ◌∷◌, Bool, ◌&&◌, length, Some, None, Ok, Err, sym, ◌∙◌, ap, inl, inr, ◌⊎◌, ⊎_elim, Result, arith, true, false, refl}
use Rattle.std.specs.Prelude.{Option, MatchOption}
use Rattle.std.specs.Result.{result_ok}
use Rattle.std.specs.List.{list_all, before_first, after_first, position_or_len}
use Rattle.std.proofs.Common.{◌==◌, lit<, take_all}
use denote.Ref.{Bor}
use Rattle.page_origin.specs.Origins.{tuple_of, tuple_of_parts, no_tuple}
use Rattle.std.proofs.lemmas.Str.Pattern.{IsSplitOnceResult, split_once_first}
use Rattle.std.specs.Option.{option_map_or}
use Rattle.page_origin.specs.declared.class.UrlClass.TheVariants.{Foreign}
use Rattle.std.proofs.lemmas.Bool.Decides.{nat_tests}
use Rattle.url.specs.Parts.{Parts, serialize, IsValid}
use Rattle.url.specs.Parser.{parse_url, IsOutOfRoom}
use Rattle.url.specs.declared.error.ParseError.TheVariants.{OutOfMemory, Overflow}
use Rattle.url.specs.declared.error.ParseError.{ParseError}
use Rattle.url.proofs.Theorems.{parse_url_idempotent}
use Rattle.url.proofs.ParsedCanonical.{parse_url_canonical}
use Rattle.page_origin.specs.declared.page.UrlRefusal.TheVariants.{TooLong, BadUrl, NoMemory}
use Rattle.page_origin.specs.declared.page.UrlRefusal.{UrlRefusal}
use Rattle.page_origin.specs.PageUrls.{url_text, admitted, admitted_url, Gives, read_url, parts_of, class_of, class_of_parts, key_of}
use Rattle.page_origin.specs.PageUrlLayout.{IsPageUrl}
use Rattle.page_origin.specs.UrlText.{is_printable, is_url_spelling}
use Rattle.page_origin.specs.Refusals.{refusal_of}

-- what parsing gives parses again from its text
pub parses_again : (input : List ℕ) (url : Parts) → IsValid url → parse_url None input ≡ Ok url → parse_url None (url_text url) ≡ Ok url
unfolding url_text
parses_again input url valid parsed = parse_url_idempotent None None input url tt valid parsed

-- the same of what joining gives
pub join_parses_again : (base url : Parts) (input : List ℕ) → IsValid base → parse_url None (url_text base) ≡ Ok base → IsValid url → parse_url (Some base) input ≡ Ok url → parse_url None (url_text url) ≡ Ok url
unfolding url_text
join_parses_again base url input valid_base own valid parsed =
    parse_url_idempotent (Some base) None input url (valid_base, parse_url_canonical None (serialize base) base tt valid_base own) valid parsed

-- the parts of a URL's own text
pub parts_of-url_text : (url : Parts) → parse_url None (url_text url) ≡ Ok url → parts_of (url_text url) ≡ Some url
unfolding parts_of
parts_of-url_text url own = ap result_ok own

pub read_long : (base : Option Parts) (text : List ℕ) → 2048 < length text → read_url base text ≡ Err TooLong
unfolding read_url
read_long base text long = grind (arith, nat_tests)

pub read_bad : (base : Option Parts) (text : List ℕ) (e : ParseError) → length text ≤ 2048 → parse_url base text ≡ Err e → read_url base text ≡ Err BadUrl
unfolding read_url
read_bad base text e short bad = let b = ap admitted_url bad in grind (arith, nat_tests)

pub read_good : (base : Option Parts) (text : List ℕ) (url : Parts) → length text ≤ 2048 → parse_url base text ≡ Ok url → read_url base text ≡ admitted (url_text url)
unfolding read_url
read_good base text url short good = let g = ap admitted_url good in grind (arith, nat_tests)

no_room : (e : ParseError) → IsOutOfRoom e → refusal_of e ≡ NoMemory
no_room e room = ⊎_elim (λ h. ap refusal_of h) (λ h. ap refusal_of h) room

two_ways : (e : ParseError) → (refusal_of e ≡ NoMemory) ⊎ (refusal_of e ≡ BadUrl)
two_ways OutOfMemory = inl refl
two_ways Overflow = inl refl
two_ways _ = inr refl

-- what a failed call of `url` says of reading
pub read_refused : (base : Option Parts) (text : List ℕ) (e : ParseError) → length text ≤ 2048 → (parse_url base text ≡ Err e) ⊎ IsOutOfRoom e → (refusal_of e ≡ NoMemory) ⊎ (read_url base text ≡ Err (refusal_of e))
read_refused base text e short why =
    ⊎_elim (λ bad. ⊎_elim (λ none. inl none) (λ kind. inr (read_bad base text e short bad ∙ ap Err (sym kind))) (two_ways e)) (λ room. inl (no_room e room)) why

-- what a failed call says of a text's parts, where memory did not run out
pub no_parts : (text : List ℕ) (e : ParseError) → (parse_url None text ≡ Err e) ⊎ IsOutOfRoom e → (refusal_of e ≡ NoMemory → ⊥) → parts_of text ≡ None
unfolding parts_of
no_parts text e (inl bad) room = ap result_ok bad
no_parts text e (inr out) room = absurd (room (no_room e out))

-- what admitting says of reading
pub read_admitted : (base : Option Parts) (text : List ℕ) (url : Parts) (result : Result (List ℕ) UrlRefusal) → length text ≤ 2048 → parse_url base text ≡ Ok url → result ≡ admitted (url_text url) → Gives result (read_url base text)
read_admitted base text url (Ok x) short good is = read_good base text url short good ∙ sym is
read_admitted base text url (Err e) short good is = inr (read_good base text url short good ∙ sym is)

pub class_of-url_text : (url : Parts) → parse_url None (url_text url) ≡ Ok url → class_of (url_text url) ≡ class_of_parts url
unfolding class_of
class_of-url_text url own = ap (λ p. option_map_or class_of_parts p Foreign) (parts_of-url_text url own)

key_by : (text : List ℕ) (r : Option (Bor (List ℕ) × Bor (List ℕ))) → MatchOption r (position_or_len (λ b. b == 35) text ≡ length text) (λ x. (position_or_len (λ b. b == 35) text < length text) × (x.0.now ≡ before_first (λ b. b == 35) text) × (x.1.now ≡ after_first (λ b. b == 35) text)) → MatchOption r (key_of text ≡ text) (λ x. key_of text ≡ x.0.now)
unfolding key_of
key_by text None none = take_all (position_or_len (λ b. b == 35) text) text (omega (arith, none))
key_by text (Some x) some = sym some.1

-- what `split_once` at `#` says of the key
pub key_of-split : (text : List ℕ) (r : Option (Bor (List ℕ) × Bor (List ℕ))) → IsSplitOnceResult 35 text r → MatchOption r (key_of text ≡ text) (λ x. key_of text ≡ x.0.now)
key_of-split text r found = key_by text r (split_once_first 35 text r found (lit< tt))

-- the tuple of a URL's own text
pub tuple_of-own : (url : Parts) (text : List ℕ) → parse_url None (url_text url) ≡ Ok url → url_text url ≡ text → tuple_of text ≡ tuple_of_parts url
unfolding tuple_of
tuple_of-own url text own is = ap tuple_of (sym is) ∙ ap (λ p. option_map_or tuple_of_parts p no_tuple) (parts_of-url_text url own)

-- a text that parses is not empty
some_text : (text : List ℕ) (url : Parts) → parse_url None text ≡ Ok url → 0 < length text
unfolding url_on_literals
some_text [] url parsed = absurd (cc)
some_text (b ∷ text) url parsed = omega arith

spelling_by : (some printable : Bool) → some ≡ true → printable ≡ true → (some && printable) ≡ true
spelling_by true printable is all = all
spelling_by false printable is all = absurd (cc)

-- a page's URL can stand in the text of a history
pub page_spelling : (url : Parts) → IsPageUrl url → is_url_spelling (url_text url) ≡ true
unfolding is_url_spelling
page_spelling url page =
    let some = some_text (url_text url) url page.parses in
    spelling_by (nat_lt 0 (length (url_text url))) (list_all is_printable (url_text url)) (grind (arith, nat_tests)) page.printable

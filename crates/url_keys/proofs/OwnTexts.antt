-- A Web URL that was read from bytes names itself: its text is read to it again.
use Rattle.std.proofs.Common.{refl, sym, ◌∙◌, ap}
use Rattle.std.specs.Prelude.{◌≡◌, if◌then◌else◌, Err, IfSome, List, None, Ok, Option, Some, false, length, nat_lt, option_and_then, ℕ}
use Rattle.std.specs.List.{list_all}
use Rattle.std.specs.Result.{result_ok}
use Rattle.url.proofs.Theorems.{parse_url-serialize_special}
use Rattle.url.specs.Parser.{Parsed, parse_url}
use Rattle.url.specs.Parts.{IsValid, Parts, kind_of}
use Rattle.url.specs.declared.scheme.SchemeType.TheVariants.{SpecialNotFile}
use Rattle.page_origin.specs.PageUrls.{admitted, admitted_url, max_length, page_url_of, parts_of, read_url, url_text}
use Rattle.page_origin.specs.UrlText.{is_printable}
use Rattle.page_origin.specs.declared.page.UrlRefusal.TheVariants.{BadUrl, TooLong}
use Rattle.url_keys.proofs.HostTexts.{from_refused}
use Rattle.url_keys.proofs.Keys.{parsed_against, parsed_alone, web_read}
use Rattle.url_keys.proofs.ValidUrls.{url_valid}
use Rattle.url_keys.specs.ReadUrls.{IsOfBytes, IsReadOfBytes}

-- the URL of a text of bytes is valid, if it is special
base_valid : (base : Option (List ℕ)) → IfSome base IsOfBytes → IfSome (option_and_then parts_of base) (λ b. kind_of b ≡ SpecialNotFile → IsValid b)
unfolding parts_of
base_valid None all = tt
base_valid (Some text) all = by_cases (parse_url None text) refl
  where
    by_cases : (r : Parsed Parts) → parse_url None text ≡ r → IfSome (result_ok r) (λ b. kind_of b ≡ SpecialNotFile → IsValid b)
    by_cases (Ok b) is = λ kind. url_valid None text b all tt (parsed_alone text b is) kind
    by_cases (Err e) is = tt

-- a text that was admitted is short
admitted_short : (text url : List ℕ) → admitted text ≡ Ok url → nat_lt max_length (length text) ≡ false
unfolding admitted
admitted_short text url is = (from_refused (nat_lt max_length (length text)) TooLong (if list_all is_printable text then Ok text else Err BadUrl) url is).0

admitted_here : (r : Parsed Parts) (p : Parts) (url : List ℕ) → r ≡ Ok p → admitted_url r ≡ Ok url → admitted (url_text p) ≡ Ok url
admitted_here r p url same is = ap admitted_url (sym same) ∙ is

pub names_itself : (url : List ℕ) → IsReadOfBytes url → page_url_of url ≡ Ok url
unfolding read_url url_text
names_itself url of_bytes =
    let read = of_bytes.read in
    let base = option_and_then parts_of read.base in
    let r = web_read url read in
    let p : Parts = r.0 in
    let valid : IsValid p = url_valid base read.text p of_bytes.text (base_valid read.base of_bytes.base) (parsed_against read.base read.text p r.1.parsed) r.1.kind in
    let again : parse_url None url ≡ Ok p = ap (parse_url None) (sym r.1.text_is) ∙ parse_url-serialize_special p None valid r.1.kind in
    let a = from_refused (nat_lt max_length (length read.text)) TooLong (admitted_url (parse_url base read.text)) url read.read in
    let here : admitted (url_text p) ≡ Ok url = admitted_here (parse_url base read.text) p url r.1.parsed a.1 in
    let short : nat_lt max_length (length url) ≡ false = ap (λ t. nat_lt max_length (length t)) (sym r.1.text_is) ∙ admitted_short (url_text p) url here in
    ap (λ b. if b then Err TooLong else admitted_url (parse_url None url)) short ∙ ap admitted_url again ∙ here

-- Each URL of a generated script names itself, is of class Web, and is its own key: computed of the 48 literals.
use Rattle.std.proofs.Common.{◌≡◌, ℕ, ◌<◌, Bool, true, false, ◌&&◌, List, ap, map, refl, Ok, Err, Result}
use Rattle.std.specs.Prelude.{bytes_eq}
use Rattle.std.specs.List.{list_all, range_with_len}
use Rattle.std.proofs.lemmas.Bool.{and_parts}
use Rattle.std.proofs.lemmas.Slice.Eq.{bytes_eq-Decides}
use Rattle.url.proofs.OnLiterals.{url_on_literals}
use Rattle.page_origin.specs.PageUrls.{admitted, class_of, page_url_of, parts_of, read_url, url_text}
use Rattle.page_origin.specs.declared.class.UrlClass.{UrlClass}
use Rattle.page_origin.specs.declared.class.UrlClass.TheVariants.{Web, AboutBlank, AboutSrcdoc, DataUrl, Foreign}
use Rattle.page_origin.specs.declared.page.UrlRefusal.{UrlRefusal}
use Rattle.script_gen.specs.Generated.{page_url, frame_url, response_url}
use Rattle.script_gen.proofs.Ranges.{at_range}

-- the text names itself, and is of class Web
record IsOwn (text : List ℕ) : Type 0 where
  read : page_url_of text ≡ Ok text
  web : class_of text ≡ Web

abbrev is_read : List ℕ → Result (List ℕ) UrlRefusal → Bool
is_read text (Ok url) = bytes_eq url text
is_read text (Err e) = false

abbrev is_web : UrlClass → Bool
is_web Web = true
is_web AboutBlank = false
is_web AboutSrcdoc = false
is_web DataUrl = false
is_web Foreign = false

-- the same as a test
abbrev is_own : List ℕ → Bool
is_own text = is_read text (page_url_of text) && is_web (class_of text)

read_by : (text : List ℕ) (result : Result (List ℕ) UrlRefusal) → is_read text result ≡ true → result ≡ Ok text
read_by text (Ok url) is = ap Ok ((bytes_eq-Decides url text).0 is)
read_by text (Err e) is = absurd (cc)

web_by : (class : UrlClass) → is_web class ≡ true → class ≡ Web
web_by Web is = refl
web_by AboutBlank is = absurd (cc)
web_by AboutSrcdoc is = absurd (cc)
web_by DataUrl is = absurd (cc)
web_by Foreign is = absurd (cc)

own_by : (text : List ℕ) → is_own text ≡ true → IsOwn text
own_by text is =
    let parts = and_parts (is_read text (page_url_of text)) (is_web (class_of text)) is in
    record { read = read_by text (page_url_of text) parts.0; web = web_by (class_of text) parts.1 }

own_pages : list_all is_own (map page_url (range_with_len 0 8)) ≡ true
unfolding url_on_literals admitted class_of parts_of read_url url_text page_url
own_pages = refl

own_frames : list_all is_own (map frame_url (range_with_len 0 8)) ≡ true
unfolding url_on_literals admitted class_of parts_of read_url url_text frame_url
own_frames = refl

own_responses : list_all is_own (map response_url (range_with_len 0 32)) ≡ true
unfolding url_on_literals admitted class_of parts_of read_url url_text response_url
own_responses = refl

-- the URL of a page
pub page_is_own : (page : ℕ) → page < 8 → page_url_of (page_url page) ≡ Ok (page_url page)
page_is_own page below = (own_by (page_url page) (at_range is_own page_url 8 page own_pages below)).read

pub page_is_web : (page : ℕ) → page < 8 → class_of (page_url page) ≡ Web
page_is_web page below = (own_by (page_url page) (at_range is_own page_url 8 page own_pages below)).web

-- that of a frame's document
pub frame_is_own : (frame : ℕ) → frame < 8 → page_url_of (frame_url frame) ≡ Ok (frame_url frame)
frame_is_own frame below = (own_by (frame_url frame) (at_range is_own frame_url 8 frame own_frames below)).read

pub frame_is_web : (frame : ℕ) → frame < 8 → class_of (frame_url frame) ≡ Web
frame_is_web frame below = (own_by (frame_url frame) (at_range is_own frame_url 8 frame own_frames below)).web

-- that of a response
pub response_is_own : (response : ℕ) → response < 32 → page_url_of (response_url response) ≡ Ok (response_url response)
response_is_own response below = (own_by (response_url response) (at_range is_own response_url 32 response own_responses below)).read

pub response_is_web : (response : ℕ) → response < 32 → class_of (response_url response) ≡ Web
response_is_web response below = (own_by (response_url response) (at_range is_own response_url 32 response own_responses below)).web

-- The URLs of pages, seen as their texts: reading, joining and serializing by the URL Standard as the crate `url` defines
-- it, of at most 2,048 bytes, all printable.
use Rattle.std.specs.Prelude.{◌≡◌, ℕ, Bool, ◌&&◌, ◌||◌, ◌==◌, nat_lt, List, length, codes, bytes_eq, Option, None, Result, Ok, Err, if◌then◌else◌}
use Rattle.std.specs.List.{list_all, before_first}
use Rattle.std.specs.Result.{result_ok}
use Rattle.std.specs.Option.{option_map_or}
use Rattle.url.specs.Parts.{Parts, serialize}
use Rattle.url.specs.Parser.{parse_url, Parsed}
use Rattle.call_answers.specs.Answers.{GivesUnless}
use Rattle.page_origin.specs.declared.page.UrlRefusal.{UrlRefusal}
use Rattle.page_origin.specs.declared.page.UrlRefusal.TheVariants.{TooLong, BadUrl, NoMemory}
use Rattle.page_origin.specs.declared.class.UrlClass.{UrlClass}
use Rattle.page_origin.specs.declared.class.UrlClass.TheVariants.{Web, AboutBlank, AboutSrcdoc, DataUrl, Foreign}
use Rattle.page_origin.specs.UrlText.{is_printable}

-- the text of a URL's parts, which is their serialization
unfoldable pub url_text : Parts → List ℕ
url_text url = serialize url

-- the parts that a text names
unfoldable pub parts_of : List ℕ → Option Parts
parts_of text = result_ok (parse_url None text)

-- the most bytes that the text of a URL has
abbrev pub max_length : ℕ
max_length = 2048

-- a serialization, unless it is too long or has a byte that is not printable
unfoldable pub admitted : List ℕ → Result (List ℕ) UrlRefusal
admitted text = if nat_lt max_length (length text) then Err TooLong
    else (if list_all is_printable text then Ok text else Err BadUrl)

abbrev pub admitted_url : Parsed Parts → Result (List ℕ) UrlRefusal
admitted_url (Ok url) = admitted (url_text url)
admitted_url (Err error) = Err BadUrl

-- the URL that a text names, against a base if there is one: too long where the text or its serialization is; else bad
-- where parsing gives an error or the serialization is not printable
unfoldable pub read_url : Option Parts → List ℕ → Result (List ℕ) UrlRefusal
read_url base text =
    if nat_lt max_length (length text) then Err TooLong else admitted_url (parse_url base text)

-- the URL that a text names
abbrev pub page_url_of : List ℕ → Result (List ℕ) UrlRefusal
page_url_of text = read_url None text

-- the URL that a text names against the URL with another text
abbrev pub join_url_of : List ℕ → List ℕ → Result (List ℕ) UrlRefusal
join_url_of base text = read_url (parts_of base) text

-- a call answers this, but for want of memory
abbrev pub Gives : {T : Type 0} → Result T UrlRefusal → Result T UrlRefusal → Type 0
Gives result expected = GivesUnless NoMemory result expected

abbrev pub is_http : List ℕ → Bool
is_http scheme = bytes_eq scheme (codes "http") || bytes_eq scheme (codes "https")

-- scheme `about` with this path
abbrev pub is_about : Parts → List ℕ → Bool
is_about url path = bytes_eq url.scheme (codes "about") && bytes_eq url.path path

-- what a URL's parts lead to
abbrev pub class_of_parts : Parts → UrlClass
class_of_parts url =
    if is_http url.scheme then Web
    else (if is_about url (codes "blank") then AboutBlank
    else (if is_about url (codes "srcdoc") then AboutSrcdoc
    else (if bytes_eq url.scheme (codes "data") then DataUrl else Foreign)))

-- what the URL with this text leads to
unfoldable pub class_of : List ℕ → UrlClass
class_of text = option_map_or class_of_parts (parts_of text) Foreign

-- the text without its fragment
unfoldable pub key_of : List ℕ → List ℕ
key_of text = before_first (λ b. b == 35) text

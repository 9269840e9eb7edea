-- How a URL is parsed: by which steps, and with which scheme.
use Rattle.std.proofs.Common.{refl, sym, ◌∙◌, ap, subst, inl, inr, All}
use Rattle.std.specs.Prelude.{◌≡◌, ◌⊎◌, ◌==◌, ◌&&◌, ◌||◌, ◌+◌, ◌<◌, ◌∷◌, [], Bool, Err, IfSome, List, None, Ok, Option, Some, bytes_eq, codes, cond, drop, false, is_some, nat_lt, not, slice_index, take, true, unwrap_or, ℕ, ◌-◌, length}
use Rattle.std.specs.Option.{option_or}
use Rattle.std.proofs.lemmas.Bool.{ltb-true}
use Rattle.std.proofs.lemmas.List.Elements.{All-cons, All-nil, All-drop, All-filter, All-head, All-tail, All-take}
use Rattle.url.proofs.SchemeLemmas.{file_from_is_file, file_from_scheme_type, scheme_at_front}
use Rattle.url.specs.Ascii.{at_sign, colon, number_sign, question_mark}
use Rattle.url.specs.Head.{head_only, scheme_only, with_authority}
use Rattle.url.specs.Host.{parse_file_host, parse_host}
use Rattle.url.specs.Input.{is_empty, lowercase, rsplit_once, split_once, strip_tabs_and_new_lines, trim_c0_control_and_space, is_c0_control_or_space, is_tab_or_new_line, trim_start}
use Rattle.url.specs.Parser.{Parsed, after_double_slash, after_file_double_slash, after_slashes, and_then, before_tail, file_start, file_with_host, inherit_file, lacks_host, leading_slashes, parse_all, parse_authority, parse_body, parse_by_scheme, parse_file, parse_non_special, parse_not_file, parse_parts, parse_port, parse_relative, parse_url, skip_slashes, split_port, split_scheme, with_path, with_tail}
use Rattle.url.specs.Parts.{Parts, kind_of}
use Rattle.url.specs.Path.{escape_end, is_windows_drive_letter, parse_path, parse_path_start, segment_len, shorten_path}
use Rattle.url.specs.Scheme.{IsScheme, is_file, is_special, scheme_len, scheme_type}
use Rattle.url.specs.declared.error.ParseError.TheVariants.{EmptyHost, RelativeUrlWithCannotBeABaseBase}
use Rattle.url.specs.declared.host.Host.{Host}
use Rattle.url.specs.declared.host.Host.TheVariants.{Domain}
use Rattle.url.specs.declared.scheme.SchemeType.TheVariants.{File, NotSpecial}
use Rattle.url.specs.declared.sets.TheConstants.{OPAQUE_PATH}
use Rattle.url_keys.proofs.HostTexts.{from_either, from_refused}
use Rattle.url_keys.proofs.Texts.{and_left, and_right, from_cond, equal_bytes}
use Rattle.percent_encoding.specs.Percent.{percent_encode}
use Rattle.std.specs.List.{prefix_len, suffix_len}
use Rattle.percent_encoding.proofs.PercentLemmas.{IsByte}

from_and_then : {A B : Type 0} (r : Parsed A) (next : A → Parsed B) (y : B) → and_then r next ≡ Ok y → (x : A) × (r ≡ Ok x) × (next x ≡ Ok y)
from_and_then (Ok x) next y is = (x, refl, is)
from_and_then (Err e) next y is = absurd (cc)

abbrev pub given : Parts → Parsed Parts
given url = Ok url

pub same_given : (a b : Parts) → given a ≡ given b → a ≡ b
same_given a b e = cc

-- which of two answers it was
pub by_cond : {Q : Type 0} (b : Bool) (x y : Parsed Parts) (url : Parts) → (b ≡ true → x ≡ Ok url → Q) → (b ≡ false → y ≡ Ok url → Q) → cond b x y ≡ Ok url → Q
by_cond true x y url f g is = f refl is
by_cond false x y url f g is = g refl is

-- ---- authorities

abbrev pub at_of : List ℕ → Option (List ℕ) × List ℕ
at_of bytes = rsplit_once at_sign bytes

abbrev pub host_port_of : List ℕ → List ℕ × Option (List ℕ)
host_port_of bytes = split_port (at_of bytes).1

abbrev pub userinfo_of : List ℕ → List ℕ × Option (List ℕ)
userinfo_of bytes = split_once colon (unwrap_or (at_of bytes).0 [])

-- an authority's parts
pub record IsAuthority (scheme bytes : List ℕ) (url : Parts) : Type 0 where
  pub host : Host (List ℕ)
  pub port : Option ℕ
  pub host_is : parse_host (scheme_type scheme) (host_port_of bytes).0 ≡ Ok host
  pub port_parsed : parse_port scheme (unwrap_or (host_port_of bytes).1 []) ≡ Ok port
  pub made : with_authority scheme (userinfo_of bytes).0 (unwrap_or (userinfo_of bytes).1 []) host port ≡ url

with_port : List ℕ → List ℕ → Host (List ℕ) → Option ℕ → Parsed Parts
with_port scheme bytes host port = Ok (with_authority scheme (userinfo_of bytes).0 (unwrap_or (userinfo_of bytes).1 []) host port)

with_host : List ℕ → List ℕ → Host (List ℕ) → Parsed Parts
with_host scheme bytes host = and_then (parse_port scheme (unwrap_or (host_port_of bytes).1 [])) (with_port scheme bytes host)

pub authority_made : (scheme bytes : List ℕ) (url : Parts) → parse_authority scheme bytes ≡ Ok url → IsAuthority scheme bytes url
unfolding parse_authority with_port with_host
authority_made scheme bytes url is =
    let a = from_refused (lacks_host (at_of bytes).0 (host_port_of bytes).0 (host_port_of bytes).1) EmptyHost (and_then (parse_host (scheme_type scheme) (host_port_of bytes).0) (with_host scheme bytes)) url is in
    let b = from_and_then (parse_host (scheme_type scheme) (host_port_of bytes).0) (with_host scheme bytes) url a.1 in
    let c = from_and_then (parse_port scheme (unwrap_or (host_port_of bytes).1 [])) (with_port scheme bytes b.0) url b.2 in
    record { host = b.0; port = c.0; host_is = b.1; port_parsed = c.1; made = same_given (with_authority scheme (userinfo_of bytes).0 (unwrap_or (userinfo_of bytes).1 []) b.0 c.0) url c.2 }

-- an authority keeps the scheme
authority_scheme : (scheme bytes : List ℕ) (url : Parts) → parse_authority scheme bytes ≡ Ok url → url.scheme ≡ scheme
authority_scheme scheme bytes url is = ap (λ (x : Parts). x.scheme) (sym (authority_made scheme bytes url is).made)

-- ---- bodies

unfoldable pub rest_of : List ℕ → List ℕ → List ℕ
rest_of scheme bytes = drop (segment_len (scheme_type scheme) bytes) bytes

with_rest : List ℕ → List ℕ → Parts → Parsed Parts
with_rest scheme bytes head = Ok (with_path head (parse_path_start (scheme_type scheme) [] (rest_of scheme bytes)))

-- what follows two slashes
pub record IsAfterSlashes (scheme bytes : List ℕ) (url : Parts) : Type 0 where
  pub head : Parts
  pub parsed : parse_authority scheme (take (segment_len (scheme_type scheme) bytes) bytes) ≡ Ok head
  pub made : with_path head (parse_path_start (scheme_type scheme) [] (rest_of scheme bytes)) ≡ url

pub slashes_made : (scheme bytes : List ℕ) (url : Parts) → after_double_slash scheme bytes ≡ Ok url → IsAfterSlashes scheme bytes url
unfolding after_double_slash with_rest rest_of
slashes_made scheme bytes url is =
    let a = from_and_then (parse_authority scheme (take (segment_len (scheme_type scheme) bytes) bytes)) (with_rest scheme bytes) url is in
    record { head = a.0; parsed = a.1; made = same_given (with_path a.0 (parse_path_start (scheme_type scheme) [] (rest_of scheme bytes))) url a.2 }

slashes_scheme : (scheme bytes : List ℕ) (url : Parts) → after_double_slash scheme bytes ≡ Ok url → url.scheme ≡ scheme
slashes_scheme scheme bytes url is =
    let a = slashes_made scheme bytes url is in
    ap (λ (x : Parts). x.scheme) (sym a.made) ∙ authority_scheme scheme (take (segment_len (scheme_type scheme) bytes) bytes) a.head a.parsed

unfoldable pub slashes_of : Parts → List ℕ → ℕ
slashes_of base body = leading_slashes (kind_of base) body

unfoldable pub start_of : Parts → List ℕ → List ℕ
start_of base body = cond (slashes_of base body == 0) (shorten_path (kind_of base) base.path) []

unfoldable pub path_of : Parts → List ℕ → List ℕ
path_of base body = parse_path (kind_of base) (start_of base body) (drop (slashes_of base body) body)

-- two slashes, or the base's head with another path
pub relative_made : (base : Parts) (body : List ℕ) (url : Parts) → parse_relative base body ≡ Ok url
    → (after_double_slash base.scheme (after_slashes (kind_of base) body) ≡ Ok url) ⊎ (with_path (with_path (head_only base) (start_of base body)) (path_of base body) ≡ url)
unfolding parse_relative slashes_of start_of path_of
relative_made base body url is =
    either (from_either (slashes_of base body == 2) (after_double_slash base.scheme (after_slashes (kind_of base) body)) (given (with_path (with_path (head_only base) (start_of base body)) (path_of base body))) (given url) is)
  where
    either : ((slashes_of base body == 2) ≡ true) × (after_double_slash base.scheme (after_slashes (kind_of base) body) ≡ given url) ⊎ ((slashes_of base body == 2) ≡ false) × (given (with_path (with_path (head_only base) (start_of base body)) (path_of base body)) ≡ given url)
        → (after_double_slash base.scheme (after_slashes (kind_of base) body) ≡ Ok url) ⊎ (with_path (with_path (head_only base) (start_of base body)) (path_of base body) ≡ url)
    either (inl e) = inl e.1
    either (inr e) = inr (same_given (with_path (with_path (head_only base) (start_of base body)) (path_of base body)) url e.1)

relative_scheme : (base : Parts) (body : List ℕ) (url : Parts) → parse_relative base body ≡ Ok url → url.scheme ≡ base.scheme
relative_scheme base body url is = either (relative_made base body url is)
  where
    either : (after_double_slash base.scheme (after_slashes (kind_of base) body) ≡ Ok url) ⊎ (with_path (with_path (head_only base) (start_of base body)) (path_of base body) ≡ url) → url.scheme ≡ base.scheme
    either (inl e) = slashes_scheme base.scheme (after_slashes (kind_of base) body) url e
    either (inr e) = ap (λ (x : Parts). x.scheme) (sym e)

-- ---- the scheme

file_slashes_scheme : (bytes : List ℕ) (url : Parts) → after_file_double_slash bytes ≡ Ok url → url.scheme ≡ codes "file"
unfolding after_file_double_slash
file_slashes_scheme bytes url is =
    by_cond (is_windows_drive_letter (take len bytes)) (given (with_path (file_with_host (Domain [])) (parse_path File [] bytes))) (and_then (parse_file_host (take len bytes)) with_host_here) url
    (λ t e. ap (λ (x : Parts). x.scheme) (sym (same_given (with_path (file_with_host (Domain [])) (parse_path File [] bytes)) url e)))
    (λ t e. host_case (from_and_then (parse_file_host (take len bytes)) with_host_here url e)) is
  where
    len : ℕ
    len = segment_len File bytes

    with_host_here : Host (List ℕ) → Parsed Parts
    with_host_here host = given (with_path (file_with_host host) (parse_path_start File [] (drop len bytes)))

    host_case : (h : Host (List ℕ)) × (parse_file_host (take len bytes) ≡ Ok h) × (with_host_here h ≡ Ok url) → url.scheme ≡ codes "file"
    host_case a = ap (λ (x : Parts). x.scheme) (sym (same_given (with_path (file_with_host a.0) (parse_path_start File [] (drop len bytes))) url a.2))

start_scheme : (scheme : List ℕ) (base : Option Parts) (relative : Bool) (rest : List ℕ) → scheme ≡ codes "file" → IfSome base (λ b. b.scheme ≡ scheme) → (file_start base relative rest).scheme ≡ scheme
unfolding inherit_file
start_scheme scheme None relative rest file is = sym file
start_scheme scheme (Some b) relative rest file is = is

file_scheme : (scheme : List ℕ) (base : Option Parts) (body : List ℕ) (url : Parts) → scheme ≡ codes "file" → IfSome base (λ b. b.scheme ≡ scheme) → parse_file base body ≡ Ok url → url.scheme ≡ scheme
unfolding parse_file
file_scheme scheme base body url file own is =
    let slashes = leading_slashes File body in
    let rest = drop slashes body in
    let start = file_start base (slashes == 0) rest in
    by_cond (slashes == 2) (after_file_double_slash rest) (given (with_path start (parse_path File start.path rest))) url
    (λ t e. file_slashes_scheme rest url e ∙ sym file)
    (λ t e. ap (λ (x : Parts). x.scheme) (sym (same_given (with_path start (parse_path File start.path rest)) url e)) ∙ start_scheme scheme base (slashes == 0) rest file own) is

plain_scheme : (scheme body : List ℕ) (url : Parts) → parse_non_special scheme body ≡ Ok url → url.scheme ≡ scheme
unfolding parse_non_special
plain_scheme scheme body url is =
    let slashes = leading_slashes NotSpecial body in
    let one = with_path (scheme_only scheme) (parse_path NotSpecial [] (drop 1 body)) in
    let opaque = with_path (scheme_only scheme) (percent_encode OPAQUE_PATH body) in
    by_cond (slashes == 2) (after_double_slash scheme (drop 2 body)) (cond (slashes == 1) (given one) (given opaque)) url
    (λ t e. slashes_scheme scheme (drop 2 body) url e)
    (λ t e. by_cond (slashes == 1) (given one) (given opaque) url (λ u f. ap (λ (x : Parts). x.scheme) (sym (same_given one url f))) (λ u f. ap (λ (x : Parts). x.scheme) (sym (same_given opaque url f))) e) is

not_file_scheme : (scheme : List ℕ) (base : Option Parts) (body : List ℕ) (url : Parts) → IfSome base (λ b. b.scheme ≡ scheme) → parse_not_file scheme base body ≡ Ok url → url.scheme ≡ scheme
not_file_scheme scheme (Some b) body url own is = relative_scheme b body url is ∙ own
not_file_scheme scheme None body url own is =
    by_cond (is_special (scheme_type scheme)) (after_double_slash scheme (skip_slashes body)) (parse_non_special scheme body) url
    (λ t e. slashes_scheme scheme (skip_slashes body) url e) (λ t e. plain_scheme scheme body url e) is

pub body_scheme : (scheme : List ℕ) (base : Option Parts) (body : List ℕ) (url : Parts) → IfSome base (λ b. b.scheme ≡ scheme) → parse_body scheme base body ≡ Ok url → url.scheme ≡ scheme
unfolding parse_body
body_scheme scheme base body url own is =
    by_cond (is_file (scheme_type scheme)) (parse_file base body) (parse_not_file scheme base body) url
    (λ t e. file_scheme scheme base body url (file_from_scheme_type scheme (file_from_is_file (scheme_type scheme) t)) own e)
    (λ t e. not_file_scheme scheme base body url own e) is

tail_scheme : (x : Parts) (query fragment : Option (List ℕ)) → (with_tail (before_tail x query fragment) query fragment).scheme ≡ x.scheme
tail_scheme x query fragment = by_cases (not (is_special (kind_of x)) && (is_some query || is_some fragment))
  where
    by_cases : (b : Bool) → (cond b (with_path x (escape_end x.path)) x).scheme ≡ x.scheme
    by_cases true = refl
    by_cases false = refl

with_own_tail_of : Option (List ℕ) → Option (List ℕ) → Parts → Parsed Parts
with_own_tail_of query fragment x = Ok (with_tail (before_tail x query fragment) query fragment)

-- a body, and then the query and the fragment
pub record IsWhole (scheme : List ℕ) (base : Option Parts) (body : List ℕ) (query fragment : Option (List ℕ)) (url : Parts) : Type 0 where
  pub front : Parts
  pub parsed : parse_body scheme base body ≡ Ok front
  pub made : with_tail (before_tail front query fragment) query fragment ≡ url

pub all_made : (scheme : List ℕ) (base : Option Parts) (body : List ℕ) (query fragment : Option (List ℕ)) (url : Parts) → parse_all scheme base body query fragment ≡ Ok url → IsWhole scheme base body query fragment url
unfolding with_own_tail_of
all_made scheme base body query fragment url is =
    let a = from_and_then (parse_body scheme base body) (with_own_tail_of query fragment) url is in
    record { front = a.0; parsed = a.1; made = same_given (with_tail (before_tail a.0 query fragment) query fragment) url a.2 }

all_scheme : (scheme : List ℕ) (base : Option Parts) (body : List ℕ) (query fragment : Option (List ℕ)) (url : Parts) → IfSome base (λ b. b.scheme ≡ scheme) → parse_all scheme base body query fragment ≡ Ok url → url.scheme ≡ scheme
all_scheme scheme base body query fragment url own is =
    let a = all_made scheme base body query fragment url is in
    ap (λ (x : Parts). x.scheme) (sym a.made) ∙ tail_scheme a.front query fragment ∙ body_scheme scheme base body a.front own a.parsed

pub parts_scheme : (scheme : List ℕ) (base : Option Parts) (body : List ℕ) (query fragment : Option (List ℕ)) (url : Parts) → IfSome base (λ b. b.scheme ≡ scheme) → parse_parts scheme base body query fragment ≡ Ok url → url.scheme ≡ scheme
unfolding parse_parts
parts_scheme scheme None body query fragment url own is = all_scheme scheme None body query fragment url own is
parts_scheme scheme (Some b) body query fragment url own is =
    by_cond (is_empty body) (given (with_tail b (option_or query b.query) fragment)) (parse_all scheme (Some b) body query fragment) url
    (λ t e. ap (λ (x : Parts). x.scheme) (sym (same_given (with_tail b (option_or query b.query) fragment) url e)) ∙ own)
    (λ t e. all_scheme scheme (Some b) body query fragment url own e) is

-- ---- the whole

-- how a URL was parsed: with its scheme, against nothing or against a base of that scheme, from a part of the text
pub record IsParsed (base : Option Parts) (input : List ℕ) (url : Parts) : Type 0 where
  pub scheme : List ℕ
  pub is_scheme : IsScheme scheme
  pub from : Option Parts
  pub own : IfSome from (λ b. b.scheme ≡ scheme)
  pub of_base : (from ≡ None) ⊎ (from ≡ base)
  pub body : List ℕ
  pub of_bytes : All IsByte input → All IsByte body
  pub query : Option (List ℕ)
  pub fragment : Option (List ℕ)
  pub parsed : parse_parts scheme from body query fragment ≡ Ok url

split_is_scheme : (bytes : List ℕ) (split : List ℕ × List ℕ) → split_scheme bytes ≡ Some split → IsScheme (lowercase split.0)
unfolding split_scheme
split_is_scheme bytes split is =
    let len = scheme_len bytes in
    let a = from_cond (nat_lt 0 len && slice_index bytes len == colon) (Some (take len bytes, drop (len + 1) bytes)) split is in
    let same : take len bytes ≡ split.0 = (let both = a.1 in cc) in
    let positive : 0 < len = ltb-true 0 len (and_left (nat_lt 0 len) (slice_index bytes len == colon) a.0) in
    subst (λ xs. IsScheme (lowercase xs)) same (scheme_at_front bytes len refl positive).1

-- a part of a text of bytes is of bytes
front_bytes : (mark : ℕ) (xs : List ℕ) → All IsByte xs → All IsByte (split_once mark xs).0
unfolding split_once
front_bytes mark [] all = All-nil IsByte
front_bytes mark (x ∷ xs) all = by_cases (x == mark) (front_bytes mark xs (All-tail IsByte x xs all))
  where
    by_cases : (b : Bool) → All IsByte (split_once mark xs).0 → All IsByte (cond {A = List ℕ × Option (List ℕ)} b ([], Some xs) (x ∷ (split_once mark xs).0, (split_once mark xs).1)).0
    by_cases true more = All-nil IsByte
    by_cases false more = All-cons IsByte x (split_once mark xs).0 (All-head IsByte x xs all) more

stripped_bytes : (xs : List ℕ) → All IsByte xs → All IsByte (strip_tabs_and_new_lines (trim_c0_control_and_space xs))
unfolding strip_tabs_and_new_lines trim_c0_control_and_space
stripped_bytes xs all =
    let start = trim_start is_c0_control_or_space xs in
    let trimmed = All-take IsByte (length start - suffix_len is_c0_control_or_space start) start (All-drop IsByte (prefix_len is_c0_control_or_space xs) xs all) in
    All-filter (λ b. not (is_tab_or_new_line b)) IsByte (trim_c0_control_and_space xs) trimmed

split_bytes : (bytes : List ℕ) (split : List ℕ × List ℕ) → split_scheme bytes ≡ Some split → All IsByte bytes → All IsByte split.1
unfolding split_scheme
split_bytes bytes split is all =
    let len = scheme_len bytes in
    let a = from_cond (nat_lt 0 len && slice_index bytes len == colon) (Some (take len bytes, drop (len + 1) bytes)) split is in
    let same : drop (len + 1) bytes ≡ split.1 = (let both = a.1 in cc) in
    subst (All IsByte) same (All-drop IsByte (len + 1) bytes all)

by_split : (input : List ℕ) (split : Option (List ℕ × List ℕ)) (base : Option Parts) (body : List ℕ) (query fragment : Option (List ℕ)) (url : Parts) → ((x : List ℕ × List ℕ) → split ≡ Some x → IsScheme (lowercase x.0)) → (All IsByte input → All IsByte body) → ((x : List ℕ × List ℕ) → split ≡ Some x → All IsByte body → All IsByte x.1) → IfSome base (λ b. IsScheme b.scheme) → parse_by_scheme split base body query fragment ≡ Ok url → IsParsed base input url
by_split input None None body query fragment url schemes bytes later bases is = absurd (cc)
by_split input None (Some b) body query fragment url schemes bytes later bases is =
    let a = from_refused _ RelativeUrlWithCannotBeABaseBase (parse_parts b.scheme (Some b) body query fragment) url is in
    record { scheme = b.scheme; is_scheme = bases; from = Some b; own = refl; of_base = inr refl; body = body; of_bytes = bytes; query = query; fragment = fragment; parsed = a.1 }
by_split input (Some x) None body query fragment url schemes bytes later bases is =
    record { scheme = lowercase x.0; is_scheme = schemes x refl; from = None; own = tt; of_base = inl refl; body = x.1; of_bytes = λ all. later x refl (bytes all); query = query; fragment = fragment; parsed = is }
by_split input (Some x) (Some b) body query fragment url schemes bytes later bases is = by_cases (is_special (kind_of b) && bytes_eq b.scheme (lowercase x.0)) refl is
  where
    by_cases : (t : Bool) → (is_special (kind_of b) && bytes_eq b.scheme (lowercase x.0)) ≡ t → parse_parts (lowercase x.0) (cond t (Some b) None) x.1 query fragment ≡ Ok url → IsParsed (Some b) input url
    by_cases true t e =
        let same : b.scheme ≡ lowercase x.0 = equal_bytes b.scheme (lowercase x.0) (and_right (is_special (kind_of b)) (bytes_eq b.scheme (lowercase x.0)) t) in
        record { scheme = lowercase x.0; is_scheme = schemes x refl; from = Some b; own = same; of_base = inr refl; body = x.1; of_bytes = λ all. later x refl (bytes all); query = query; fragment = fragment; parsed = e }
    by_cases false t e = record { scheme = lowercase x.0; is_scheme = schemes x refl; from = None; own = tt; of_base = inl refl; body = x.1; of_bytes = λ all. later x refl (bytes all); query = query; fragment = fragment; parsed = e }

pub url_parsed : (base : Option Parts) (input : List ℕ) (url : Parts) → IfSome base (λ b. IsScheme b.scheme) → parse_url base input ≡ Ok url → IsParsed base input url
unfolding parse_url
url_parsed base input url bases is =
    let hash = split_once number_sign (strip_tabs_and_new_lines (trim_c0_control_and_space input)) in
    let question = split_once question_mark hash.0 in
    by_split input (split_scheme question.0) base question.0 question.1 hash.1 url (λ x e. split_is_scheme question.0 x e)
    (λ all. front_bytes question_mark hash.0 (front_bytes number_sign (strip_tabs_and_new_lines (trim_c0_control_and_space input)) (stripped_bytes input all)))
    (λ x e all. split_bytes question.0 x e all) bases is

pub url_scheme : (base : Option Parts) (input : List ℕ) (url : Parts) → IsParsed base input url → IsScheme url.scheme
url_scheme base input url p = subst IsScheme (sym (parts_scheme p.scheme p.from p.body p.query p.fragment url p.own p.parsed)) p.is_scheme

-- A web URL's host is spelled as a host.
use Rattle.std.proofs.Common.{◌≡◌, ℕ, ◌<◌, Bool, true, false, List, [], ◌∷◌, ◌++◌, length, get_or, refl, arith, Some, None, ⊎_elim, length-append}
use Rattle.std.specs.Prelude.{All, Option, option_map, unwrap_or, not, if◌then◌else◌, ◌-◌}
use Rattle.std.specs.List.{list_all}
use Rattle.std.proofs.lemmas.List.Elements.{All-weaker, All-head, All-tail}
use Rattle.std.proofs.lemmas.Bool.Decides.{nat_tests}
use Rattle.std.proofs.NetLemmas.Alphabet.{IsDigitOrDot, IsHexOrColon, All-ipv4_text, All-hex_groups_text}
use Rattle.std.specs.Net.Addr.{ipv4_octets, ipv6_segments}
use Rattle.std.specs.Net.Text.{ipv4_text, hex_groups_text}
use Rattle.percent_encoding.specs.Percent.{IsKept}
use Rattle.url.specs.declared.sets.TheConstants.{FORBIDDEN_DOMAIN}
use Rattle.url.specs.declared.host.Host.{Host}
use Rattle.url.specs.declared.host.Host.TheVariants.{Domain, Ipv4, Ipv6}
use Rattle.url.specs.declared.scheme.SchemeType.TheVariants.{SpecialNotFile}
use Rattle.url.specs.Host.{host_text, is_empty_host, IsHostOf}
use Rattle.url.specs.Parts.{Parts, host_or_empty, nonempty_host, kind_of}
use Rattle.url.proofs.OnLiterals.{url_on_literals}
use Rattle.url.proofs.HostRoundTrip.{parse_special_host-host_text}
use Rattle.url.specs.Host.{parse_special_host}
use Rattle.std.proofs.Common.{Ok, suc}
use Rattle.url.proofs.SetLemmas.{passes_from_kept}
use Rattle.url.proofs.InputLemmas.{is_empty_nonempty}
use Rattle.std.proofs.Math.Seq.{take-append_seam, get_or-append_seam}
use Rattle.std.proofs.Common.{◌&&◌, take, ◌+◌}
use Rattle.std.proofs.lemmas.Slice.Eq.{bytes_eq-Decides}
use Rattle.std.specs.Prelude.{codes, bytes_eq}
use Rattle.url.specs.Scheme.{scheme_type, default_port}
use Rattle.page_origin.specs.declared.class.UrlClass.TheVariants.{Web, AboutBlank, AboutSrcdoc, DataUrl, Foreign}
use Rattle.page_origin.specs.PageUrls.{class_of_parts, is_http}
use Rattle.std.proofs.lemmas.Bool.{cases_Bool}
use Rattle.page_origin.specs.HostSpelling.{is_host, is_name_byte, is_address_byte}

-- a test that each element passes
list_all-from_all : (p : ℕ → Bool) (xs : List ℕ) → All (λ b. p b ≡ true) xs → list_all p xs ≡ true
list_all-from_all p [] all = refl
list_all-from_all p (x ∷ xs) all = rw (All-head (λ b. p b ≡ true) x xs all, list_all-from_all p xs (All-tail (λ b. p b ≡ true) x xs all))

-- visible bytes with no delimiter are a host
name_is_host : (text : List ℕ) → 0 < length text → All (λ b. is_name_byte b ≡ true) text → is_host text ≡ true
unfolding is_host
name_is_host [] some all = absurd (omega arith)
name_is_host (b ∷ text) some all =
    let first = All-head (λ x. is_name_byte x ≡ true) b text all in
    let whole = list_all-from_all is_name_byte (b ∷ text) all in
    grind (arith, nat_tests)

-- a web URL's scheme is special
http_kind : (scheme : List ℕ) → is_http scheme ≡ true → scheme_type scheme ≡ SpecialNotFile
unfolding scheme_type default_port
http_kind scheme http =
    ⊎_elim
    (λ yes. let is = (bytes_eq-Decides scheme (codes "http")).0 yes in rw is)
    (λ no. let is = (bytes_eq-Decides scheme (codes "https")).0 (rw no at http) in rw is)
    (cases_Bool (bytes_eq scheme (codes "http")))

other_kind : {A : Type 0} → (a b d : Bool) → (if a then AboutBlank else (if b then AboutSrcdoc else (if d then DataUrl else Foreign))) ≡ Web → A
other_kind true b d e = cc
other_kind false true d e = cc
other_kind false false true e = cc
other_kind false false false e = cc

pub web_kind : (url : Parts) → class_of_parts url ≡ Web → kind_of url ≡ SpecialNotFile
web_kind url web =
    ⊎_elim (λ http. http_kind url.scheme http) (λ other. other_kind (bytes_eq url.scheme (codes "about") && bytes_eq url.path (codes "blank")) (bytes_eq url.scheme (codes "about") && bytes_eq url.path (codes "srcdoc")) (bytes_eq url.scheme (codes "data")) (rw other at web)) (cases_Bool (is_http url.scheme))

-- an address between brackets is a host
address_is_host : (inner : List ℕ) → 0 < length inner → All (λ b. is_address_byte b ≡ true) inner → is_host (91 ∷ inner ++ 93 ∷ []) ≡ true
unfolding is_host
address_is_host inner some all =
    let whole = list_all-from_all is_address_byte inner all in
    let len : length (inner ++ 93 ∷ []) ≡ length inner + 1 = simp length-append in
    let last : get_or (inner ++ 93 ∷ []) (length inner) 0 ≡ 93 = get_or-append_seam inner 93 [] 0 in
    let middle : take (length inner) (inner ++ 93 ∷ []) ≡ inner = take-append_seam inner (93 ∷ []) in
    let at : suc (length (inner ++ 93 ∷ [])) - 1 ≡ suc (length inner) = omega (arith, len) in
    let back : suc (length inner) - 1 ≡ length inner = omega arith in
    rw (at, last) (rw (back, middle, whole) (grind (arith, nat_tests)))

-- no address is empty, since `[]` is none
address_nonempty : (text : List ℕ) (host : Host (List ℕ)) → parse_special_host (91 ∷ text ++ 93 ∷ []) ≡ Ok host → 0 < length text
unfolding url_on_literals
address_nonempty [] host parsed = absurd (cc)
address_nonempty (b ∷ text) host parsed = omega arith

pub is_host-host_text : (host : Host (List ℕ)) → IsHostOf SpecialNotFile host → is_host (host_text host) ≡ true
is_host-host_text (Domain d) valid =
    name_is_host d valid.1 (All-weaker (IsKept FORBIDDEN_DOMAIN) (λ b. is_name_byte b ≡ true) (passes_from_kept FORBIDDEN_DOMAIN is_name_byte refl) d valid.0.allowed)
is_host-host_text (Ipv4 a) valid =
    name_is_host (ipv4_text (ipv4_octets a)) (simp length-append (omega arith)) (All-weaker IsDigitOrDot (λ b. is_name_byte b ≡ true) (λ b digit. grind (arith, nat_tests)) (ipv4_text (ipv4_octets a)) (All-ipv4_text _ valid.1))
is_host-host_text (Ipv6 a) valid =
    address_is_host (hex_groups_text (ipv6_segments a)) (address_nonempty (hex_groups_text (ipv6_segments a)) (Ipv6 a) (parse_special_host-host_text (Ipv6 a) valid)) (All-weaker IsHexOrColon (λ b. is_address_byte b ≡ true) (λ b digit. grind (arith, nat_tests)) (hex_groups_text (ipv6_segments a)) (All-hex_groups_text _ valid.1))

-- the text of the host, or of the empty one where there is none
pub host_str_text : (url : Parts) → unwrap_or (option_map host_text (nonempty_host url)) [] ≡ host_text (host_or_empty url)
host_str_text url = host_by url.host where
  host_by : (host : Option (Host (List ℕ))) → unwrap_or (option_map host_text (if not (is_empty_host (unwrap_or host (Domain []))) then host else None)) [] ≡ host_text (unwrap_or host (Domain []))
  host_by None = refl
  host_by (Some (Domain [])) = refl
  host_by (Some (Domain (b ∷ d))) = rw (is_empty_nonempty (b ∷ d) (omega arith))
  host_by (Some (Ipv4 a)) = refl
  host_by (Some (Ipv6 a)) = refl

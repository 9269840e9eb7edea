-- A URL of a special scheme that was parsed from bytes is valid: the form of URLs whose text is parsed to them again.
use Rattle.std.proofs.Common.{refl, sym, ◌∙◌, ap, subst, inl, inr, arith, All}
use Rattle.std.specs.Prelude.{◌≡◌, ◌⊎◌, ◌==◌, ◌&&◌, ◌||◌, ◌<◌, ◌^◌, ◌++◌, ◌∷◌, [], Bool, Err, IfSome, List, None, Ok, Option, Some, cond, drop, false, length, nat_eq, nat_lt, not, slice_index, take, true, unwrap_or, ℕ}
use Rattle.std.specs.Char.{is_ascii_digit}
use Rattle.std.specs.List.{list_all}
use Rattle.std.specs.Option.{option_eq, option_or}
use Rattle.std.specs.Str.Parse.{digits_value}
use Rattle.std.proofs.lemmas.Bool.{cond_both}
use Rattle.std.proofs.lemmas.Bool.Decides.{nat_tests}
use Rattle.std.proofs.lemmas.List.Elements.{All-drop, All-head, All-nil, All-push, All-tail}
use Rattle.percent_encoding.proofs.PercentLemmas.{IsByte}
use Rattle.url.proofs.LayoutLemmas.{IsValidHead_same}
use Rattle.url.proofs.ParsedCanonical.{before_special}
use Rattle.url.proofs.PathLemmas.{IsNoSlash, no_segments, push_last_nonempty, push_segment_valid, shorten_valid}
use Rattle.url.proofs.SetterLemmas.{valid_with_authority}
use Rattle.url.proofs.ValidLemmas.{IsValid-with_tail, base_from_authority, hierarchical, special_has_authority}
use Rattle.url.specs.Head.{head_only}
use Rattle.url.specs.Host.{IsHostOf, is_empty_host, parse_host}
use Rattle.url.specs.Input.{is_empty}
use Rattle.url.specs.Parser.{after_double_slash, after_slashes, before_tail, parse_all, parse_authority, parse_body, parse_file, parse_non_special, parse_not_file, parse_parts, parse_port, parse_relative, skip_slashes, with_path, with_tail, without_default_port}
use Rattle.url.specs.Parts.{IsPortOf, IsValid, IsValidHead, IsValidPath, Parts, kind_of}
use Rattle.url.specs.Path.{IsSegmentList, parse_path, parse_path_start, parse_segments, push_segment, segment_len, shorten_path}
use Rattle.url.specs.Scheme.{IsScheme, default_port, is_file, is_slash, is_special, scheme_type}
use Rattle.url.specs.declared.error.ParseError.TheVariants.{InvalidPort}
use Rattle.url.specs.declared.host.Host.{Host}
use Rattle.url.specs.declared.host.Host.TheVariants.{Domain, Ipv4, Ipv6}
use Rattle.url.specs.declared.scheme.SchemeType.TheVariants.{SpecialNotFile}
use Rattle.url_keys.proofs.HostForms.{host_form}
use Rattle.url_keys.proofs.HostTexts.{from_either}
use Rattle.url_keys.proofs.ParsedUrls.{port_is, port_small}
use Rattle.url_keys.proofs.Parsing.{IsParsed, all_made, authority_made, body_scheme, by_cond, given, host_port_of, parts_scheme, path_of, relative_made, rest_of, same_given, slashes_made, slashes_of, start_of, userinfo_of}

-- ---- authorities

-- a port that is written is not the scheme's own
other_port : (scheme digits : List ℕ) (n : ℕ) → parse_port scheme digits ≡ Ok (Some n) → default_port scheme ≡ Some n → ⊥
unfolding parse_port
other_port scheme digits n is own = none (from_either (is_empty digits) (port_is None) _ (port_is (Some n)) is)
  where
    value : ℕ
    value = digits_value 10 digits

    made : (m : ℕ) → port_is (without_default_port scheme (Some m)) ≡ port_is (Some n) → ⊥
    made m e = by_default (default_port scheme) own e
      where
        by_default : (o : Option ℕ) → o ≡ Some n → port_is (cond (option_eq nat_eq (Some m) o) None (Some m)) ≡ port_is (Some n) → ⊥
        by_default None o e = cc
        by_default (Some k) o e = by_cases (m == k) refl e
          where
            by_cases : (b : Bool) → (m == k) ≡ b → port_is (cond b None (Some m)) ≡ port_is (Some n) → ⊥
            by_cases true t e = cc
            by_cases false t e =
                let same : k ≡ n = cc in
                let other : m ≡ n = cc in
                grind (arith, nat_tests)

    some : ((list_all is_ascii_digit digits && nat_lt value (2 ^ 16)) ≡ true) × (port_is (without_default_port scheme (Some value)) ≡ port_is (Some n))
        ⊎ ((list_all is_ascii_digit digits && nat_lt value (2 ^ 16)) ≡ false) × (Err InvalidPort ≡ port_is (Some n)) → ⊥
    some (inl e) = made value e.1
    some (inr e) = let wrong = e.1 in cc

    none : ((is_empty digits ≡ true) × (port_is None ≡ port_is (Some n))) ⊎ ((is_empty digits ≡ false) × (cond (list_all is_ascii_digit digits && nat_lt value (2 ^ 16)) (port_is (without_default_port scheme (Some value))) (Err InvalidPort) ≡ port_is (Some n))) → ⊥
    none (inl e) = let wrong = e.1 in cc
    none (inr e) = some (from_either (list_all is_ascii_digit digits && nat_lt value (2 ^ 16)) (port_is (without_default_port scheme (Some value))) (Err InvalidPort) (port_is (Some n)) e.1)

port_valid : (scheme digits : List ℕ) (port : Option ℕ) → parse_port scheme digits ≡ Ok port → IsPortOf scheme port
port_valid scheme digits None is = tt
port_valid scheme digits (Some n) is = (port_small scheme digits (Some n) is, λ own. other_port scheme digits n is own)

host_some : (host : Host (List ℕ)) → IsHostOf SpecialNotFile host → is_empty_host host ≡ false
host_some (Domain domain) is = let some = is.1 in grind (arith, nat_tests)
host_some (Ipv4 address) is = refl
host_some (Ipv6 address) is = refl

authority_valid : (scheme bytes : List ℕ) (url : Parts) → IsScheme scheme → scheme_type scheme ≡ SpecialNotFile → parse_authority scheme bytes ≡ Ok url → IsValidHead url
authority_valid scheme bytes url is_scheme kind is =
    let a = authority_made scheme bytes url is in
    let host : IsHostOf SpecialNotFile a.host = host_form (host_port_of bytes).0 a.host (ap (λ k. parse_host k (host_port_of bytes).0) (sym kind) ∙ a.host_is) in
    let neither : (is_empty_host a.host || is_file (scheme_type scheme)) ≡ false = ap (λ b. b || is_file (scheme_type scheme)) (host_some a.host host) ∙ ap is_file kind in
    subst IsValidHead a.made
    (valid_with_authority scheme (userinfo_of bytes).0 (unwrap_or (userinfo_of bytes).1 []) a.host a.port is_scheme (subst (λ k. IsHostOf k a.host) (sym kind) host)
    (port_valid scheme (unwrap_or (host_port_of bytes).1 []) a.port a.port_parsed) (λ bare. absurd (let wrong : true ≡ false = sym bare ∙ neither in cc)))

-- ---- paths

-- one or more segments
abbrev IsPath : List ℕ → Type 0
IsPath path = IsSegmentList SpecialNotFile path × (0 < length path)

segments_valid : (path segment bytes : List ℕ) → All IsByte segment → All (IsNoSlash SpecialNotFile) segment → All IsByte bytes → IsSegmentList SpecialNotFile path → IsPath (parse_segments SpecialNotFile path segment bytes)
unfolding parse_segments
segments_valid path segment [] in_bytes whole all list = (push_segment_valid SpecialNotFile path segment true in_bytes whole list, push_last_nonempty SpecialNotFile path segment)
segments_valid path segment (b ∷ bytes) in_bytes whole all list =
    cond_both (is_slash SpecialNotFile b) _ _ IsPath
    (λ _. segments_valid (push_segment SpecialNotFile path segment false) [] bytes (All-nil IsByte) (All-nil (IsNoSlash SpecialNotFile)) (All-tail IsByte b bytes all) (push_segment_valid SpecialNotFile path segment false in_bytes whole list))
    (λ plain. segments_valid path (segment ++ b ∷ []) bytes (All-push IsByte segment b in_bytes (All-head IsByte b bytes all)) (All-push (IsNoSlash SpecialNotFile) segment b whole plain) (All-tail IsByte b bytes all) list)

path_valid : (path bytes : List ℕ) → All IsByte bytes → IsSegmentList SpecialNotFile path → IsPath (parse_path SpecialNotFile path bytes)
path_valid path bytes all list = segments_valid path [] bytes (All-nil IsByte) (All-nil (IsNoSlash SpecialNotFile)) all list

start_valid : (path bytes : List ℕ) → All IsByte bytes → IsSegmentList SpecialNotFile path → IsPath (parse_path_start SpecialNotFile path bytes)
unfolding parse_path_start
start_valid path bytes all list =
    cond_both (is_empty bytes && not (is_special SpecialNotFile)) path _ IsPath
    (λ t. absurd (never (is_empty bytes) t))
    (λ _. cond_both (is_slash SpecialNotFile (slice_index bytes 0)) _ _ IsPath (λ _. path_valid path (drop 1 bytes) (All-drop IsByte 1 bytes all) list) (λ _. path_valid path bytes all list))
  where
    never : (b : Bool) → (b && false) ≡ true → ⊥
    never true e = cc
    never false e = cc

-- ---- bodies

slashes_valid : (scheme bytes : List ℕ) (url : Parts) → IsScheme scheme → scheme_type scheme ≡ SpecialNotFile → All IsByte bytes → after_double_slash scheme bytes ≡ Ok url → IsValidHead url × IsPath url.path
unfolding rest_of
slashes_valid scheme bytes url is_scheme kind all is =
    let a = slashes_made scheme bytes url is in
    let rest : All IsByte (rest_of scheme bytes) = All-drop IsByte (segment_len (scheme_type scheme) bytes) bytes all in
    let path : IsPath (parse_path_start (scheme_type scheme) [] (rest_of scheme bytes)) = subst (λ k. IsPath (parse_path_start k [] (rest_of scheme bytes))) (sym kind) (start_valid [] (rest_of scheme bytes) rest (no_segments SpecialNotFile)) in
    let head = authority_valid scheme (take (segment_len (scheme_type scheme) bytes) bytes) a.head is_scheme kind a.parsed in
    subst (λ (x : Parts). IsValidHead x × IsPath x.path) a.made (IsValidHead_same a.head _ refl head, path)

after_bytes : (b : Bool) (body : List ℕ) → All IsByte body → All IsByte (cond b (skip_slashes body) (drop 2 body))
after_bytes true body all = All-drop IsByte _ body all
after_bytes false body all = All-drop IsByte 2 body all

relative_valid : (base : Parts) (body : List ℕ) (url : Parts) → kind_of base ≡ SpecialNotFile → IsValidHead base → IsSegmentList SpecialNotFile base.path → All IsByte body → parse_relative base body ≡ Ok url → IsValidHead url × IsPath url.path
unfolding slashes_of start_of path_of
relative_valid base body url kind head path all is = either (relative_made base body url is)
  where
    start_is : IsSegmentList SpecialNotFile (start_of base body)
    start_is = cond_both (slashes_of base body == 0) (shorten_path (kind_of base) base.path) [] (IsSegmentList SpecialNotFile)
        (λ _. subst (λ k. IsSegmentList SpecialNotFile (shorten_path k base.path)) (sym kind) (shorten_valid SpecialNotFile base.path path)) (λ _. no_segments SpecialNotFile)

    path_is : IsPath (path_of base body)
    path_is = subst (λ k. IsPath (parse_path k (start_of base body) (drop (slashes_of base body) body))) (sym kind) (path_valid (start_of base body) (drop (slashes_of base body) body) (All-drop IsByte (slashes_of base body) body all) start_is)

    either : (after_double_slash base.scheme (after_slashes (kind_of base) body) ≡ Ok url) ⊎ (with_path (with_path (head_only base) (start_of base body)) (path_of base body) ≡ url) → IsValidHead url × IsPath url.path
    either (inl e) = slashes_valid base.scheme (after_slashes (kind_of base) body) url head.scheme kind (after_bytes (is_special (kind_of base)) body all) e
    either (inr e) = subst (λ (x : Parts). IsValidHead x × IsPath x.path) e (IsValidHead_same base _ refl head, path_is)

-- ---- the whole

-- of the base, where it counts
abbrev IsValidBase : List ℕ → Option Parts → Type 0
IsValidBase scheme base = IfSome base (λ b. IsValidHead b × IsPath b.path × (b.scheme ≡ scheme))

base_scheme : (scheme : List ℕ) (base : Option Parts) → IsValidBase scheme base → IfSome base (λ b. b.scheme ≡ scheme)
base_scheme scheme None is = tt
base_scheme scheme (Some b) is = is.2

not_file_valid : (scheme : List ℕ) (base : Option Parts) (body : List ℕ) (url : Parts) → IsScheme scheme → scheme_type scheme ≡ SpecialNotFile → IsValidBase scheme base → All IsByte body → parse_not_file scheme base body ≡ Ok url → IsValidHead url × IsPath url.path
not_file_valid scheme (Some b) body url is_scheme kind own all is = relative_valid b body url (ap scheme_type own.2 ∙ kind) own.0 own.1.0 all is
not_file_valid scheme None body url is_scheme kind own all is =
    by_cond (is_special (scheme_type scheme)) (after_double_slash scheme (skip_slashes body)) (parse_non_special scheme body) url
    (λ t e. slashes_valid scheme (skip_slashes body) url is_scheme kind (after_bytes true body all) e)
    (λ t e. absurd (let wrong : true ≡ false = sym (ap is_special kind) ∙ t in cc)) is

body_valid : (scheme : List ℕ) (base : Option Parts) (body : List ℕ) (url : Parts) → IsScheme scheme → scheme_type scheme ≡ SpecialNotFile → IsValidBase scheme base → All IsByte body → parse_body scheme base body ≡ Ok url → IsValidHead url × IsPath url.path
unfolding parse_body
body_valid scheme base body url is_scheme kind own all is =
    by_cond (is_file (scheme_type scheme)) (parse_file base body) (parse_not_file scheme base body) url
    (λ t e. absurd (let wrong : false ≡ true = sym (ap is_file kind) ∙ t in cc))
    (λ t e. not_file_valid scheme base body url is_scheme kind own all e) is

-- a head and a path, and then any query and fragment
tail_valid : (x : Parts) (query fragment : Option (List ℕ)) → kind_of x ≡ SpecialNotFile → IsValidHead x → IsPath x.path → IsValid (with_tail x query fragment)
tail_valid x query fragment kind head path =
    let whole : IsValidPath x = inl (subst (λ k. IsSegmentList k x.path) (sym kind) path.0, λ _. path.1) in
    IsValid-with_tail x query fragment head whole

all_valid : (scheme : List ℕ) (base : Option Parts) (body : List ℕ) (query fragment : Option (List ℕ)) (url : Parts) → IsScheme scheme → scheme_type scheme ≡ SpecialNotFile → IsValidBase scheme base → All IsByte body → parse_all scheme base body query fragment ≡ Ok url → IsValid url
all_valid scheme base body query fragment url is_scheme kind own all is =
    let a = all_made scheme base body query fragment url is in
    let x : Parts = a.front in
    let v = body_valid scheme base body x is_scheme kind own all a.parsed in
    let x_kind : kind_of x ≡ SpecialNotFile = ap scheme_type (body_scheme scheme base body x (base_scheme scheme base own) a.parsed) ∙ kind in
    let stays : before_tail x query fragment ≡ x = before_special x query fragment (ap is_special x_kind) in
    subst IsValid a.made (subst (λ y. IsValid (with_tail y query fragment)) (sym stays) (tail_valid x query fragment x_kind v.0 v.1))

parts_valid : (scheme : List ℕ) (base : Option Parts) (body : List ℕ) (query fragment : Option (List ℕ)) (url : Parts) → IsScheme scheme → scheme_type scheme ≡ SpecialNotFile → IsValidBase scheme base → All IsByte body → parse_parts scheme base body query fragment ≡ Ok url → IsValid url
unfolding parse_parts
parts_valid scheme None body query fragment url is_scheme kind own all is = all_valid scheme None body query fragment url is_scheme kind own all is
parts_valid scheme (Some b) body query fragment url is_scheme kind own all is =
    by_cond (is_empty body) (given (with_tail b (option_or query b.query) fragment)) (parse_all scheme (Some b) body query fragment) url
    (λ t e. subst IsValid (same_given (with_tail b (option_or query b.query) fragment) url e) (tail_valid b (option_or query b.query) fragment (ap scheme_type own.2 ∙ kind) own.0 own.1))
    (λ t e. all_valid scheme (Some b) body query fragment url is_scheme kind own all e) is

-- a special URL that was parsed from bytes, against nothing or against a valid URL
pub url_valid : (base : Option Parts) (input : List ℕ) (url : Parts) → All IsByte input → IfSome base (λ b. kind_of b ≡ SpecialNotFile → IsValid b) → IsParsed base input url → kind_of url ≡ SpecialNotFile → IsValid url
url_valid base input url all bases p kind =
    let scheme_kind : scheme_type p.scheme ≡ SpecialNotFile = ap scheme_type (sym (parts_scheme p.scheme p.from p.body p.query p.fragment url p.own p.parsed)) ∙ kind in
    parts_valid p.scheme p.from p.body p.query p.fragment url p.is_scheme scheme_kind (of_from p.from p.own p.of_base scheme_kind) (p.of_bytes all) p.parsed
  where
    of_valid : (b : Parts) → kind_of b ≡ SpecialNotFile → IsValid b → IsPath b.path
    of_valid b is valid =
        let special : is_special (kind_of b) ≡ true = ap is_special is in
        let path = hierarchical b valid.path (base_from_authority b (special_has_authority b valid.head special)) in
        (subst (λ k. IsSegmentList k b.path) is path.0, path.1 special)

    of_from : (from : Option Parts) → IfSome from (λ b. b.scheme ≡ p.scheme) → (from ≡ None) ⊎ (from ≡ base) → scheme_type p.scheme ≡ SpecialNotFile → IsValidBase p.scheme from
    of_from None own of scheme_kind = tt
    of_from (Some b) own (inl none) scheme_kind = absurd (cc)
    of_from (Some b) own (inr same) scheme_kind =
        let valid : IfSome (Some b) (λ (x : Parts). kind_of x ≡ SpecialNotFile → IsValid x) = subst (λ o. IfSome o (λ (x : Parts). kind_of x ≡ SpecialNotFile → IsValid x)) (sym same) bases in
        let is : kind_of b ≡ SpecialNotFile = ap scheme_type own ∙ scheme_kind in
        ((valid is).head, of_valid b is (valid is), own)

-- Equal sites and origins are equal as values.
use Rattle.std.proofs.Common.{refl, ◌∙◌, ap}
use Rattle.std.specs.Prelude.{◌≡◌, ◌&&◌, ◌==◌, List, None, Option, Some, bytes_eq, true, ℕ}
use Rattle.std.proofs.lemmas.Bool.{eqb-true, eq-eqb}
use Rattle.std.proofs.lemmas.Slice.Eq.{bytes_eq-Decides}
use Rattle.page_origin.specs.Origins.{equal_origins, equal_sites, equal_tuples, same_only, same_origin, same_scheme}
use Rattle.page_origin.specs.declared.origin.OpaqueOrigin.{OpaqueOrigin}
use Rattle.page_origin.specs.declared.origin.Origin.{Origin}
use Rattle.page_origin.specs.declared.origin.Origin.TheVariants.{Opaque, Tuple}
use Rattle.page_origin.specs.declared.origin.TupleOrigin.{TupleOrigin}
use Rattle.page_origin.specs.declared.site.Scheme.{Scheme}
use Rattle.page_origin.specs.declared.site.Scheme.TheVariants.{Http, Https}
use Rattle.page_origin.specs.declared.site.Site.{Site}
use Rattle.history_rules.proofs.Apart.{and_both, and_left, and_right}

pub equal_bytes : (a b : List ℕ) → bytes_eq a b ≡ true → a ≡ b
equal_bytes a b e = (bytes_eq-Decides a b).0 e

pub same_bytes : (a : List ℕ) → bytes_eq a a ≡ true
same_bytes a = (bytes_eq-Decides a a).1 refl

equal_schemes : (a b : Scheme) → same_scheme a b ≡ true → a ≡ b
equal_schemes Http Http e = refl
equal_schemes Http Https e = absurd (cc)
equal_schemes Https Http e = absurd (cc)
equal_schemes Https Https e = refl

scheme_itself : (a : Scheme) → same_scheme a a ≡ true
scheme_itself Http = refl
scheme_itself Https = refl

equal_ports : (a b : Option ℕ) → same_only a b ≡ true → a ≡ b
equal_ports None None e = refl
equal_ports None (Some b) e = absurd (cc)
equal_ports (Some a) None e = absurd (cc)
equal_ports (Some a) (Some b) e = ap (λ port. Some port) (eqb-true a b e)

port_itself : (a : Option ℕ) → same_only a a ≡ true
port_itself None = refl
port_itself (Some a) = eq-eqb a a refl

pub sites_same : (a b : Site) → equal_sites a b ≡ true → a ≡ b
sites_same a b e =
    let both = and_left (same_scheme a.scheme b.scheme && bytes_eq a.host b.host) (same_only a.only b.only) e in
    let scheme : a.scheme ≡ b.scheme = equal_schemes a.scheme b.scheme (and_left (same_scheme a.scheme b.scheme) (bytes_eq a.host b.host) both) in
    let host : a.host ≡ b.host = equal_bytes a.host b.host (and_right (same_scheme a.scheme b.scheme) (bytes_eq a.host b.host) both) in
    let only : a.only ≡ b.only = equal_ports a.only b.only (and_right (same_scheme a.scheme b.scheme && bytes_eq a.host b.host) (same_only a.only b.only) e) in
    let of : Scheme → List ℕ → Option ℕ → Site = λ x y z. record { scheme = x; host = y; only = z } in
    ap (λ x. of x a.host a.only) scheme ∙ ap (λ y. of b.scheme y a.only) host ∙ ap (λ z. of b.scheme b.host z) only

pub site_itself : (a : Site) → equal_sites a a ≡ true
site_itself a = and_both (same_scheme a.scheme a.scheme && bytes_eq a.host a.host) (same_only a.only a.only)
    (and_both (same_scheme a.scheme a.scheme) (bytes_eq a.host a.host) (scheme_itself a.scheme) (same_bytes a.host)) (port_itself a.only)

tuples_same : (a b : TupleOrigin) → equal_tuples a b ≡ true → a ≡ b
tuples_same a b e =
    let both = and_left (same_scheme a.scheme b.scheme && bytes_eq a.host b.host) (a.port == b.port) e in
    let scheme : a.scheme ≡ b.scheme = equal_schemes a.scheme b.scheme (and_left (same_scheme a.scheme b.scheme) (bytes_eq a.host b.host) both) in
    let host : a.host ≡ b.host = equal_bytes a.host b.host (and_right (same_scheme a.scheme b.scheme) (bytes_eq a.host b.host) both) in
    let port : a.port ≡ b.port = eqb-true a.port b.port (and_right (same_scheme a.scheme b.scheme && bytes_eq a.host b.host) (a.port == b.port) e) in
    let of : Scheme → List ℕ → ℕ → TupleOrigin = λ x y z. record { scheme = x; host = y; port = z } in
    ap (λ x. of x a.host a.port) scheme ∙ ap (λ y. of b.scheme y a.port) host ∙ ap (λ z. of b.scheme b.host z) port

tuple_itself : (a : TupleOrigin) → equal_tuples a a ≡ true
tuple_itself a = and_both (same_scheme a.scheme a.scheme && bytes_eq a.host a.host) (a.port == a.port)
    (and_both (same_scheme a.scheme a.scheme) (bytes_eq a.host a.host) (scheme_itself a.scheme) (same_bytes a.host)) (eq-eqb a.port a.port refl)

opaques_same : (a b : OpaqueOrigin) → ((a.document == b.document) && equal_sites a.precursor b.precursor) ≡ true → a ≡ b
opaques_same a b e =
    let document : a.document ≡ b.document = eqb-true a.document b.document (and_left (a.document == b.document) (equal_sites a.precursor b.precursor) e) in
    let precursor : a.precursor ≡ b.precursor = sites_same a.precursor b.precursor (and_right (a.document == b.document) (equal_sites a.precursor b.precursor) e) in
    let of : ℕ → Site → OpaqueOrigin = λ x y. record { document = x; precursor = y } in
    ap (λ x. of x a.precursor) document ∙ ap (λ y. of b.document y) precursor

pub origins_same : (a b : Origin) → equal_origins a b ≡ true → a ≡ b
origins_same (Tuple a) (Tuple b) e = ap (λ o. Tuple o) (tuples_same a b e)
origins_same (Tuple a) (Opaque b) e = absurd (cc)
origins_same (Opaque a) (Tuple b) e = absurd (cc)
origins_same (Opaque a) (Opaque b) e = ap (λ o. Opaque o) (opaques_same a b e)

pub origin_itself : (a : Origin) → equal_origins a a ≡ true
origin_itself (Tuple a) = tuple_itself a
origin_itself (Opaque a) = and_both (a.document == a.document) (equal_sites a.precursor a.precursor) (eq-eqb a.document a.document refl) (site_itself a.precursor)

pub same_itself : (a : Origin) → same_origin a a ≡ true
same_itself (Tuple a) = tuple_itself a
same_itself (Opaque a) = eq-eqb a.document a.document refl

-- Equal tuple origins are equal as values.
use Rattle.std.proofs.Common.{refl, ◌∙◌, ap}
use Rattle.std.specs.Prelude.{◌≡◌, ◌&&◌, ◌==◌, Bool, List, bytes_eq, false, true, ℕ}
use Rattle.std.proofs.lemmas.Bool.{eqb-true, eq-eqb}
use Rattle.std.proofs.lemmas.Slice.Eq.{bytes_eq-Decides}
use Rattle.page_origin.specs.Origins.{equal_tuples, same_scheme}
use Rattle.page_origin.specs.declared.origin.TupleOrigin.{TupleOrigin}
use Rattle.page_origin.specs.declared.site.Scheme.{Scheme}
use Rattle.page_origin.specs.declared.site.Scheme.TheVariants.{Http, Https}

and_left : (a b : Bool) → (a && b) ≡ true → a ≡ true
and_left true b e = refl
and_left false b e = absurd (cc)

and_right : (a b : Bool) → (a && b) ≡ true → b ≡ true
and_right true b e = e
and_right false b e = absurd (cc)

equal_schemes : (a b : Scheme) → same_scheme a b ≡ true → a ≡ b
equal_schemes Http Http e = refl
equal_schemes Http Https e = absurd (cc)
equal_schemes Https Http e = absurd (cc)
equal_schemes Https Https e = refl

pub tuples_same : (a b : TupleOrigin) → equal_tuples a b ≡ true → a ≡ b
tuples_same a b e =
    let both = and_left (same_scheme a.scheme b.scheme && bytes_eq a.host b.host) (a.port == b.port) e in
    let scheme : a.scheme ≡ b.scheme = equal_schemes a.scheme b.scheme (and_left (same_scheme a.scheme b.scheme) (bytes_eq a.host b.host) both) in
    let host : a.host ≡ b.host = (bytes_eq-Decides a.host b.host).0 (and_right (same_scheme a.scheme b.scheme) (bytes_eq a.host b.host) both) in
    let port : a.port ≡ b.port = eqb-true a.port b.port (and_right (same_scheme a.scheme b.scheme && bytes_eq a.host b.host) (a.port == b.port) e) in
    let of : Scheme → List ℕ → ℕ → TupleOrigin = λ x y z. record { scheme = x; host = y; port = z } in
    ap (λ x. of x a.host a.port) scheme ∙ ap (λ y. of b.scheme y a.port) host ∙ ap (λ z. of b.scheme b.host z) port

scheme_itself : (a : Scheme) → same_scheme a a ≡ true
scheme_itself Http = refl
scheme_itself Https = refl

and_both : (a b : Bool) → a ≡ true → b ≡ true → (a && b) ≡ true
and_both true b e f = f
and_both false b e f = absurd (cc)

pub tuple_itself : (a : TupleOrigin) → equal_tuples a a ≡ true
tuple_itself a = and_both (same_scheme a.scheme a.scheme && bytes_eq a.host a.host) (a.port == a.port)
    (and_both (same_scheme a.scheme a.scheme) (bytes_eq a.host a.host) (scheme_itself a.scheme) ((bytes_eq-Decides a.host a.host).1 refl)) (eq-eqb a.port a.port refl)

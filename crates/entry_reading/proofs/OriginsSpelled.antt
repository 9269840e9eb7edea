-- What is read of a site or an origin spells it; so with rules.
use Rattle.std.proofs.Common.{◌≡◌, ℕ, ◌^◌, Bool, true, false, not, ◌==◌, List, [], ◌∷◌, ◌++◌, length, take, drop, Some, None, refl, sym, ap, ◌∙◌, append_assoc, eq-eqb, subst, take-append-drop, ⊎_elim}
use Rattle.std.specs.Prelude.{Option, codes, decimal, find, nat_eq, nat_lt, if◌then◌else◌}
use Rattle.std.specs.List.{starts_with}
use Rattle.std.proofs.lemmas.Bool.{and_parts, eqb-true}
use Rattle.std.proofs.lemmas.Bool.Decides.{Decides-eqb}
use Rattle.std.proofs.lemmas.Option.{none-some, same_Some}
use Rattle.std.proofs.lemmas.Slice.Eq.{bytes_eq-Decides, starts_is}
use Rattle.page_origin.specs.HostSpelling.{is_host}
use Rattle.page_origin.specs.Origins.{default_port_of, port_text, scheme_text, site_text, tuple_text}
use Rattle.page_origin.specs.declared.site.Scheme.{Scheme}
use Rattle.page_origin.specs.declared.site.Scheme.TheVariants.{Http, Https}
use Rattle.page_origin.specs.declared.site.Site.{Site}
use Rattle.page_origin.specs.declared.origin.TupleOrigin.{TupleOrigin}
use Rattle.page_origin.specs.declared.origin.Origin.{Origin}
use Rattle.page_origin.specs.declared.origin.Origin.TheVariants.{Opaque, Tuple}
use Rattle.decimal_text.specs.Numbers.{decimal_number}
use Rattle.history_entry.specs.RuleText.{all_rules, rule_text}
use Rattle.history_entry.specs.declared.rule.Rule.{Rule}
use Rattle.call_answers.specs.Chains.{◌>>=◌}
use Rattle.entry_text.specs.Lines.{field, origin_line}
use Rattle.entry_reading.specs.Fields.{before, field_by, has_code, host_length, host_of, is_written_port, isolated_site_of, onwards, opaque_of, origin_of, past, port_of, rule_of, scheme_of, shared_site_of, site_of, tuple_by, tuple_of}
use Rattle.entry_reading.proofs.FieldsSpelled.{Front, around_whole, bind_some, chosen, decimal_is, passed, past_is, value_there}

-- ---- tuples

-- a text that begins so
begins : (text front : List ℕ) → starts_with nat_eq text front ≡ true → front ++ drop (length front) text ≡ text
begins text front is = sym ((starts_is Decides-eqb text front (starts_with nat_eq text front) refl).0 is)

regrouped : (a b c d : List ℕ) → ((a ++ b) ++ c) ++ d ≡ a ++ (b ++ (c ++ d))
regrouped a b c d = append_assoc (a ++ b) c d ∙ append_assoc a b (c ++ d)

scheme_is : (text : List ℕ) (p : Scheme × List ℕ) → scheme_of text ≡ Some p → scheme_text p.0 ++ (codes "://" ++ p.1) ≡ text
scheme_is text p is =
    ⊎_elim
    (λ https. subst (λ (q : Scheme × List ℕ). scheme_text q.0 ++ (codes "://" ++ q.1) ≡ text) (same_Some (Https, drop 8 text) p https.1) (begins text (codes "https://") https.0))
    (λ other.
    let test = passed (starts_with nat_eq text (codes "http://")) (Some (Http, drop 7 text)) p other.1 in
    subst (λ (q : Scheme × List ℕ). scheme_text q.0 ++ (codes "://" ++ q.1) ≡ text) (same_Some (Http, drop 7 text) p test.1) (begins text (codes "http://") test.0))
    (chosen (starts_with nat_eq text (codes "https://")) (Some (Https, drop 8 text)) _ p is)

host_is : (text host : List ℕ) → host_of text ≡ Some host → host ≡ text
host_is text host is = sym (same_Some text host (passed (is_host text) (Some text) host is).1)

not_true : (test : Bool) → not test ≡ true → test ≡ false
not_true true is = sym is
not_true false is = refl

port_is : (scheme : Scheme) (text : List ℕ) (port : ℕ) → port_of scheme text ≡ Some port → port_text scheme port ≡ text
port_is scheme [] port is =
    let own : default_port_of scheme ≡ port = same_Some (default_port_of scheme) port is in
    rw (eq-eqb port (default_port_of scheme) (sym own)) refl
port_is scheme (b ∷ text) port is =
    let colon = passed (b == 58) (decimal_number text >>= λ n. if is_written_port scheme n then Some n else None) port is in
    let first : b ≡ 58 = eqb-true b 58 colon.0 in
    let digits = bind_some (decimal_number text) (λ n. if is_written_port scheme n then Some n else None) port colon.1 in
    let test = passed (is_written_port scheme digits.0) (Some digits.0) port digits.2 in
    let same : digits.0 ≡ port = same_Some digits.0 port test.1 in
    let parts = and_parts (nat_lt digits.0 (2 ^ 16)) (not (digits.0 == default_port_of scheme)) test.0 in
    let other : (digits.0 == default_port_of scheme) ≡ false = not_true (digits.0 == default_port_of scheme) parts.1 in
    ap (port_text scheme) (sym same) ∙ rw (other, decimal_is text digits.0 digits.1, first) refl

abbrev tuple : Scheme → List ℕ → ℕ → TupleOrigin
tuple scheme host port = record { scheme = scheme; host = host; port = port }

tuple_by_is : (scheme : Scheme) (text : List ℕ) (o : TupleOrigin) → tuple_by scheme text ≡ Some o → (o.scheme ≡ scheme) × (o.host ++ port_text o.scheme o.port ≡ text)
tuple_by_is scheme text o is =
    let host = bind_some (host_of (take (host_length text) text)) (λ host. port_of scheme (drop (host_length text) text) >>= λ port. Some (tuple scheme host port)) o is in
    let port = bind_some (port_of scheme (drop (host_length text) text)) (λ port. Some (tuple scheme host.0 port)) o host.2 in
    let same : tuple scheme host.0 port.0 ≡ o = same_Some (tuple scheme host.0 port.0) o port.2 in
    let whole : host.0 ++ port_text scheme port.0 ≡ text =
    ap (λ t. t ++ port_text scheme port.0) (host_is (take (host_length text) text) host.0 host.1)
    ∙ ap (λ t. take (host_length text) text ++ t) (port_is scheme (drop (host_length text) text) port.0 port.1)
    ∙ take-append-drop (host_length text) text in
    subst (λ (t : TupleOrigin). (t.scheme ≡ scheme) × (t.host ++ port_text t.scheme t.port ≡ text)) same (refl, whole)

tuple_whole : (o : TupleOrigin) (scheme : Scheme) (rest text : List ℕ) → o.scheme ≡ scheme → o.host ++ port_text o.scheme o.port ≡ rest → scheme_text scheme ++ (codes "://" ++ rest) ≡ text → tuple_text o ≡ text
tuple_whole o scheme rest text same inner outer =
    regrouped (scheme_text o.scheme) (codes "://") o.host (port_text o.scheme o.port)
    ∙ ap (λ t. scheme_text o.scheme ++ (codes "://" ++ t)) inner
    ∙ ap (λ s. scheme_text s ++ (codes "://" ++ rest)) same
    ∙ outer

pub tuple_is : (text : List ℕ) (o : TupleOrigin) → tuple_of text ≡ Some o → tuple_text o ≡ text
unfolding tuple_of
tuple_is text o is =
    let scheme = bind_some (scheme_of text) (λ s. tuple_by s.0 s.1) o is in
    let by = tuple_by_is scheme.0.0 scheme.0.1 o scheme.2 in
    tuple_whole o scheme.0.0 scheme.0.1 text by.0 by.1 (scheme_is text scheme.0 scheme.1)

-- ---- sites

abbrev site : Scheme → List ℕ → Option ℕ → Site
site scheme host only = record { scheme = scheme; host = host; only = only }

shared_is : (text : List ℕ) (s : Site) → shared_site_of text ≡ Some s → site_text s ≡ text
shared_is text s is =
    let scheme = bind_some (scheme_of text) (λ p. host_of p.1 >>= λ host. Some (site p.0 host None)) s is in
    let host = bind_some (host_of scheme.0.1) (λ host. Some (site scheme.0.0 host None)) s scheme.2 in
    let same : site scheme.0.0 host.0 None ≡ s = same_Some (site scheme.0.0 host.0 None) s host.2 in
    ap site_text (sym same)
    ∙ append_assoc (scheme_text scheme.0.0) (codes "://") host.0
    ∙ ap (λ t. scheme_text scheme.0.0 ++ (codes "://" ++ t)) (host_is scheme.0.1 host.0 host.1)
    ∙ scheme_is text scheme.0 scheme.1

isolated_is : (text : List ℕ) (s : Site) → isolated_site_of text ≡ Some s → site_text s ≡ 61 ∷ text
isolated_is text s is =
    let o = bind_some (tuple_of text) (λ o. Some (site o.scheme o.host (Some o.port))) s is in
    let same : site o.0.scheme o.0.host (Some o.0.port) ≡ s = same_Some (site o.0.scheme o.0.host (Some o.0.port)) s o.2 in
    ap site_text (sym same) ∙ ap (λ t. 61 ∷ t) (tuple_is text o.0 o.1)

pub site_is : (text : List ℕ) (s : Site) → site_of text ≡ Some s → site_text s ≡ text
unfolding site_of
site_is text s is =
    ⊎_elim
    (λ isolated. isolated_is (drop 1 text) s isolated.1 ∙ begins text (codes "=") isolated.0)
    (λ shared. shared_is text s shared.1)
    (chosen (starts_with nat_eq text (codes "=")) (isolated_site_of (drop 1 text)) (shared_site_of text) s is)

pub site_there : (text : List ℕ) (p : Site × List ℕ) → field_by site_of text ≡ Some p → Front (field (site_text p.0)) p.1 text
site_there = value_there site_of site_text site_is

-- ---- origins

opaque_is : (text : List ℕ) (origin : Origin) → opaque_of text ≡ Some origin → origin_line origin ≡ codes "opaque:" ++ text
unfolding origin_line
opaque_is text origin is =
    let document = bind_some (decimal_number (before 58 text)) (λ n. past 58 (onwards 58 text) >>= λ rest. site_of rest >>= λ s. Some (Opaque (record { document = n; precursor = s }))) origin is in
    let rest = bind_some (past 58 (onwards 58 text)) (λ rest. site_of rest >>= λ s. Some (Opaque (record { document = document.0; precursor = s }))) origin document.2 in
    let precursor = bind_some (site_of rest.0) (λ s. Some (Opaque (record { document = document.0; precursor = s }))) origin rest.2 in
    let same : Opaque (record { document = document.0; precursor = precursor.0 }) ≡ origin = same_Some (Opaque (record { document = document.0; precursor = precursor.0 })) origin precursor.2 in
    let inner : decimal document.0 ++ 58 ∷ site_text precursor.0 ≡ text =
    ap (λ t. t ++ 58 ∷ site_text precursor.0) (decimal_is (before 58 text) document.0 document.1)
    ∙ ap (λ t. before 58 text ++ 58 ∷ t) (site_is rest.0 precursor.0 precursor.1)
    ∙ ap (λ t. before 58 text ++ t) (past_is 58 (onwards 58 text) rest.0 rest.1)
    ∙ around_whole 58 text in
    ap origin_line (sym same)
    ∙ ap (λ t. codes "opaque:" ++ t) (append_assoc (decimal document.0) (58 ∷ []) (site_text precursor.0) ∙ inner)

pub origin_is : (text : List ℕ) (origin : Origin) → origin_of text ≡ Some origin → origin_line origin ≡ text
unfolding origin_line origin_of
origin_is text origin is =
    ⊎_elim
    (λ opaque. opaque_is (drop 7 text) origin opaque.1 ∙ begins text (codes "opaque:") opaque.0)
    (λ other.
    let o = bind_some (tuple_of text) (λ o. Some (Tuple o)) origin other.1 in
    ap origin_line (sym (same_Some (Tuple o.0) origin o.2)) ∙ tuple_is text o.0 o.1)
    (chosen (starts_with nat_eq text (codes "opaque:")) (opaque_of (drop 7 text)) (tuple_of text >>= λ o. Some (Tuple o)) origin is)

pub origin_there : (text : List ℕ) (p : Origin × List ℕ) → field_by origin_of text ≡ Some p → Front (field (origin_line p.0)) p.1 text
origin_there = value_there origin_of origin_line origin_is

-- ---- rules

found : (text : List ℕ) (all : List Rule) (rule : Rule) → find (has_code text) all ≡ Some rule → has_code text rule ≡ true
found text [] rule is = absurd (none-some rule is)
found text (first ∷ all) rule is =
    ⊎_elim
    (λ this. subst (λ r. has_code text r ≡ true) (same_Some first rule this.1) this.0)
    (λ other. found text all rule other.1)
    (chosen (has_code text first) (Some first) (find (has_code text) all) rule is)

pub rule_is : (text : List ℕ) (rule : Rule) → rule_of text ≡ Some rule → rule_text rule ≡ text
unfolding has_code rule_of
rule_is text rule is = (bytes_eq-Decides (rule_text rule) text).0 (found text all_rules rule is)

pub rule_there : (text : List ℕ) (p : Rule × List ℕ) → field_by rule_of text ≡ Some p → Front (field (rule_text p.0)) p.1 text
rule_there = value_there rule_of rule_text rule_is

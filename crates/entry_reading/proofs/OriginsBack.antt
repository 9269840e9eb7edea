-- Sites and origins are read back from their spellings.
use Rattle.std.proofs.Common.{◌≡◌, ℕ, ◌-◌, ◌^◌, true, false, ◌==◌, List, [], ◌∷◌, ◌++◌, length, get_or, take, drop, Some, None, refl, sym, ap, arith, ⊎_elim, append_assoc, suc, zero}
use Rattle.std.specs.Prelude.{IfSome, Option, codes, decimal, nat_eq, nat_lt}
use Rattle.std.specs.List.{list_all, starts_with}
use Rattle.std.specs.Char.{is_ascii_digit}
use Rattle.std.proofs.lemmas.Bool.{cases_Bool, and_parts, eqb-true}
use Rattle.std.proofs.lemmas.Bool.Decides.{nat_tests}
use Rattle.page_origin.specs.HostSpelling.{is_address_byte, is_host, is_name_byte}
use Rattle.page_origin.specs.Origins.{default_port_of, port_text, site_text, tuple_text}
use Rattle.page_origin.specs.declared.site.Scheme.{Scheme}
use Rattle.page_origin.specs.declared.site.Scheme.TheVariants.{Http, Https}
use Rattle.page_origin.specs.declared.site.Site.{Site}
use Rattle.page_origin.specs.declared.origin.TupleOrigin.{TupleOrigin}
use Rattle.page_origin.specs.declared.origin.Origin.{Origin}
use Rattle.page_origin.specs.declared.origin.Origin.TheVariants.{Opaque, Tuple}
use Rattle.entry_text.specs.Lines.{origin_line}
use Rattle.entry_reading.specs.Entries.{IsNumber, IsOrigin, IsPort, IsSite}
use Rattle.entry_reading.specs.Fields.{before, host_length, opaque_of, origin_of, port_of, site_of, tuple_by, tuple_of}
use Rattle.page_origin.proofs.Spellings.{IsAddress, address_of, are_visible, host_visible, is_visible, second_answer}
use Rattle.entry_reading.proofs.FieldsBack.{before_mark, decimal_visible, differs, goes_on, onwards_mark}
use Rattle.decimal_text.proofs.Numerals.{decimal_digits, number_back}

-- ---- the host at the front

take_front : (front rest : List ℕ) → take (length front) (front ++ rest) ≡ front
take_front [] rest = refl
take_front (b ∷ front) rest = ap (λ t. b ∷ t) (take_front front rest)

drop_front : (front rest : List ℕ) → drop (length front) (front ++ rest) ≡ rest
drop_front [] rest = refl
drop_front (b ∷ front) rest = drop_front front rest

-- an address ends with its bracket
address_before : (n : ℕ) (text rest : List ℕ) → length text ≡ suc n → list_all is_address_byte (take n text) ≡ true → get_or text n 0 ≡ 93 → length (before 93 (text ++ rest)) ≡ n
address_before zero [] rest long all last = absurd (omega arith)
address_before zero (b ∷ []) rest long all last = rw last refl
address_before zero (b ∷ c ∷ text) rest long all last = absurd (omega arith)
address_before (suc n) [] rest long all last = absurd (omega arith)
address_before (suc n) (b ∷ text) rest long all last =
    let parts = and_parts (is_address_byte b) (list_all is_address_byte (take n text)) all in
    rw (differs 93 is_address_byte b refl parts.0) (ap suc (address_before n text rest (omega arith) parts.1 last))

host_long : (host rest : List ℕ) → is_host host ≡ true → goes_on 58 rest ≡ true → host_length (host ++ rest) ≡ length host
unfolding is_host
host_long [] rest is on = cc
host_long (b ∷ text) rest is on =
    ⊎_elim
    (λ bracket.
    let e : b ≡ 91 = eqb-true b 91 bracket in
    let address : IsAddress text (length text - 1) = address_of text (rw e at is) in
    let inner : length (before 93 (text ++ rest)) ≡ length text - 1 = address_before (length text - 1) text rest address.long address.inner address.last in
    let some : length text ≡ suc (length text - 1) = address.long in
    rw e (rw inner (omega arith)))
    (λ name.
    let named : list_all is_name_byte (b ∷ text) ≡ true = (and_parts (nat_lt 0 (length (b ∷ text))) (list_all is_name_byte (b ∷ text)) (second_answer (b == 91) _ _ name is)).1 in
    rw name (ap length (before_mark 58 is_name_byte (b ∷ text) rest refl named on)))
    (cases_Bool (b == 91))

-- ---- tuples

port_goes_on : (scheme : Scheme) (port : ℕ) → goes_on 58 (port_text scheme port) ≡ true
port_goes_on scheme port = ⊎_elim (λ own. rw own refl) (λ other. rw other refl) (cases_Bool (port == default_port_of scheme))

port_back : (scheme : Scheme) (port : ℕ) → IsPort port → port_of scheme (port_text scheme port) ≡ Some port
port_back scheme port small =
    ⊎_elim
    (λ own. let e : port ≡ default_port_of scheme = eqb-true port (default_port_of scheme) own in rw own (ap (λ (n : ℕ). Some n) (sym e)))
    (λ other.
    let test : nat_lt port (2 ^ 16) ≡ true = grind (arith, nat_tests) in
    rw other (rw (number_back port (omega arith)) (rw (test, other) refl)))
    (cases_Bool (port == default_port_of scheme))

abbrev tuple : Scheme → List ℕ → ℕ → TupleOrigin
tuple scheme host port = record { scheme = scheme; host = host; port = port }

host_port_back : (scheme : Scheme) (host : List ℕ) (port : ℕ) → is_host host ≡ true → IsPort port → tuple_by scheme (host ++ port_text scheme port) ≡ Some (tuple scheme host port)
host_port_back scheme host port valid small =
    rw (host_long host (port_text scheme port) valid (port_goes_on scheme port))
    (rw (take_front host (port_text scheme port), drop_front host (port_text scheme port), valid)
    (rw (port_back scheme port small) refl))

tuple_read : (scheme : Scheme) (host : List ℕ) (port : ℕ) → is_host host ≡ true → IsPort port → tuple_of (tuple_text (tuple scheme host port)) ≡ Some (tuple scheme host port)
unfolding tuple_of
tuple_read Http host port valid small = host_port_back Http host port valid small
tuple_read Https host port valid small = host_port_back Https host port valid small

not_opaque : (scheme : Scheme) (host : List ℕ) (port : ℕ) → starts_with nat_eq (tuple_text (tuple scheme host port)) (codes "opaque:") ≡ false
not_opaque Http host port = refl
not_opaque Https host port = refl

pub tuple_back : (scheme : Scheme) (host : List ℕ) (port : ℕ) → is_host host ≡ true → IsPort port → origin_of (tuple_text (tuple scheme host port)) ≡ Some (Tuple (tuple scheme host port))
unfolding origin_of
tuple_back scheme host port valid small = rw (not_opaque scheme host port, tuple_read scheme host port valid small) refl

-- ---- sites

site_by : (scheme : Scheme) (host : List ℕ) (only : Option ℕ) → is_host host ≡ true → IfSome only IsPort → site_of (site_text (record { scheme = scheme; host = host; only = only })) ≡ Some (record { scheme = scheme; host = host; only = only })
unfolding site_of
site_by Http host None valid small = rw valid refl
site_by Https host None valid small = rw valid refl
site_by scheme host (Some port) valid small = rw (tuple_read scheme host port valid small) refl

pub site_back : (site : Site) → IsSite site → site_of (site_text site) ≡ Some site
site_back site valid = site_by site.scheme site.host site.only valid.0 valid.1

opaque_back : (document : ℕ) (site : Site) → IsNumber document → IsSite site → opaque_of (decimal document ++ 58 ∷ site_text site) ≡ Some (Opaque (record { document = document; precursor = site }))
opaque_back document site small valid =
    rw (before_mark 58 is_ascii_digit (decimal document) (58 ∷ site_text site) refl (decimal_digits document small) refl)
    (rw (onwards_mark 58 is_ascii_digit (decimal document) (58 ∷ site_text site) refl (decimal_digits document small) refl)
    (rw (number_back document small) (rw (site_back site valid) refl)))

opaque_parts : (document site : List ℕ) → (document ++ codes ":") ++ site ≡ document ++ 58 ∷ site
opaque_parts document site = append_assoc document (58 ∷ []) site

pub origin_back : (origin : Origin) → IsOrigin origin → origin_of (origin_line origin) ≡ Some origin
unfolding origin_line origin_of
origin_back (Tuple o) valid = tuple_back o.scheme o.host o.port valid.0 valid.1
origin_back (Opaque o) valid = rw (opaque_parts (decimal o.document) (site_text o.precursor)) (opaque_back o.document o.precursor valid.0 valid.1)

-- ---- their bytes are visible

pub visible_append : (a b : List ℕ) → are_visible a ≡ true → are_visible b ≡ true → are_visible (a ++ b) ≡ true
visible_append [] b first second = second
visible_append (x ∷ a) b first second =
    let parts = and_parts (is_visible x) (are_visible a) first in
    rw (parts.0, visible_append a b parts.1 second) refl

port_visible : (scheme : Scheme) (port : ℕ) → IsPort port → are_visible (port_text scheme port) ≡ true
port_visible scheme port small = ⊎_elim (λ own. rw own refl) (λ other. rw other (decimal_visible port (omega arith))) (cases_Bool (port == default_port_of scheme))

tuple_visible : (scheme : Scheme) (host : List ℕ) (port : ℕ) → is_host host ≡ true → IsPort port → are_visible (tuple_text (tuple scheme host port)) ≡ true
tuple_visible Http host port valid small = visible_append host (port_text Http port) (host_visible host valid) (port_visible Http port small)
tuple_visible Https host port valid small = visible_append host (port_text Https port) (host_visible host valid) (port_visible Https port small)

site_by_visible : (scheme : Scheme) (host : List ℕ) (only : Option ℕ) → is_host host ≡ true → IfSome only IsPort → are_visible (site_text (record { scheme = scheme; host = host; only = only })) ≡ true
site_by_visible Http host None valid small = host_visible host valid
site_by_visible Https host None valid small = host_visible host valid
site_by_visible scheme host (Some port) valid small = tuple_visible scheme host port valid small

pub site_visible : (site : Site) → IsSite site → are_visible (site_text site) ≡ true
site_visible site valid = site_by_visible site.scheme site.host site.only valid.0 valid.1

pub origin_visible : (origin : Origin) → IsOrigin origin → are_visible (origin_line origin) ≡ true
unfolding origin_line
origin_visible (Tuple o) valid = tuple_visible o.scheme o.host o.port valid.0 valid.1
origin_visible (Opaque o) valid =
    rw (opaque_parts (decimal o.document) (site_text o.precursor))
    (visible_append (decimal o.document) (58 ∷ site_text o.precursor) (decimal_visible o.document valid.0) (site_visible o.precursor valid.1))

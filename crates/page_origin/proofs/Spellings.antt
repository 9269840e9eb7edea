-- Hosts and URLs as a history spells them are texts of visible or printable bytes.
use Rattle.std.proofs.Common.{◌≡◌, ℕ, ◌-◌, ◌<◌, Bool, true, false, ◌&&◌, ◌==◌, List, [], ◌∷◌, length, get_or, take, refl, arith, ⊎_elim, suc, zero}
use Rattle.std.specs.Prelude.{All, IsUtf8, if◌then◌else◌, nat_le, nat_lt, slice_range}
use Rattle.std.specs.List.{list_all}
use Rattle.std.proofs.lemmas.Bool.{and_parts, cases_Bool, eqb-true}
use Rattle.std.proofs.lemmas.Bool.Decides.{nat_tests}
use Rattle.std.proofs.lemmas.List.Elements.{All-cons, All-nil}
use Rattle.std.proofs.lemmas.Str.{IsUtf8-from_ascii}
use Rattle.std.proofs.lemmas.Str.Ascii.{IsAscii-from_all}
use Rattle.page_origin.specs.HostSpelling.{is_address_byte, is_host, is_name_byte}
use Rattle.page_origin.specs.UrlText.{is_printable, is_url_spelling}

-- a byte that no space and no line feed is
abbrev pub is_visible : ℕ → Bool
is_visible b = nat_le 33 b && nat_le b 126

abbrev pub are_visible : List ℕ → Bool
are_visible text = list_all is_visible text

abbrev pub are_printable : List ℕ → Bool
are_printable text = list_all is_printable text

name_visible : (b : ℕ) → is_name_byte b ≡ true → is_visible b ≡ true
name_visible b is = grind (arith, nat_tests)

address_visible : (b : ℕ) → is_address_byte b ≡ true → is_visible b ≡ true
address_visible b is = grind (arith, nat_tests)

visible_printable : (b : ℕ) → is_visible b ≡ true → is_printable b ≡ true
visible_printable b is = grind (arith, nat_tests)

pub list_all-weaker : (p q : ℕ → Bool) → ((b : ℕ) → p b ≡ true → q b ≡ true) → (text : List ℕ) → list_all p text ≡ true → list_all q text ≡ true
list_all-weaker p q weaker [] all = refl
list_all-weaker p q weaker (b ∷ text) all =
    let parts = and_parts (p b) (list_all p text) all in
    rw (weaker b parts.0, list_all-weaker p q weaker text parts.1) refl

pub printable_from_visible : (text : List ℕ) → are_visible text ≡ true → are_printable text ≡ true
printable_from_visible text all = list_all-weaker is_visible is_printable visible_printable text all

-- an address up to its closing bracket
pub address_visible_to : (n : ℕ) (text : List ℕ) → length text ≡ suc n → list_all is_address_byte (take n text) ≡ true → get_or text n 0 ≡ 93 → are_visible text ≡ true
address_visible_to zero [] long all last = absurd (omega arith)
address_visible_to zero (b ∷ []) long all last = rw last refl
address_visible_to zero (b ∷ c ∷ text) long all last = absurd (omega arith)
address_visible_to (suc n) [] long all last = absurd (omega arith)
address_visible_to (suc n) (b ∷ text) long all last =
    let parts = and_parts (is_address_byte b) (list_all is_address_byte (take n text)) all in
    rw (address_visible b parts.0, address_visible_to n text (omega arith) parts.1 last) refl

-- the parts of a host that begins with a bracket
pub record IsAddress (text : List ℕ) (n : ℕ) : Type 0 where
  pub long : length text ≡ suc n
  pub inner : list_all is_address_byte (take n text) ≡ true
  pub last : get_or text n 0 ≡ 93

pub address_of : (text : List ℕ) → is_host (91 ∷ text) ≡ true → IsAddress text (length text - 1)
unfolding is_host
address_of text is =
    let whole = and_parts (nat_lt 2 (suc (length text)) && (get_or (91 ∷ text) (suc (length text) - 1) 0 == 93)) (list_all is_address_byte (slice_range (91 ∷ text) 1 (suc (length text) - 1))) is in
    let parts = and_parts (nat_lt 2 (suc (length text))) (get_or (91 ∷ text) (suc (length text) - 1) 0 == 93) whole.0 in
    let some : 2 < suc (length text) = let test = parts.0 in grind (arith, nat_tests) in
    let at : suc (length text) - 1 ≡ suc (length text - 1) = omega arith in
    let inside : suc (length text - 1) - 1 ≡ length text - 1 = omega arith in
    record {
      long = omega arith;
      inner = rw inside at (rw at at whole.1);
      last = eqb-true (get_or text (length text - 1) 0) 93 (rw at at parts.1);
    }

-- the second answer, where the test fails
pub second_answer : (test x y : Bool) → test ≡ false → (if test then x else y) ≡ true → y ≡ true
second_answer true x y fails is = cc
second_answer false x y fails is = is

-- a host's bytes are visible
pub host_visible : (host : List ℕ) → is_host host ≡ true → are_visible host ≡ true
unfolding is_host
host_visible [] is = refl
host_visible (b ∷ text) is =
    ⊎_elim
    (λ bracket.
    let e : b ≡ 91 = eqb-true b 91 bracket in
    let address : IsAddress text (length text - 1) = address_of text (rw e at is) in
    rw (e, address_visible_to (length text - 1) text address.long address.inner address.last) refl)
    (λ name.
    let named : list_all is_name_byte (b ∷ text) ≡ true = (and_parts (nat_lt 0 (length (b ∷ text))) (list_all is_name_byte (b ∷ text)) (second_answer (b == 91) _ _ name is)).1 in
    list_all-weaker is_name_byte is_visible name_visible (b ∷ text) named)
    (cases_Bool (b == 91))

pub url_printable : (text : List ℕ) → is_url_spelling text ≡ true → are_printable text ≡ true
unfolding is_url_spelling
url_printable text is = (and_parts (nat_lt 0 (length text)) (list_all is_printable text) is).1

-- printable bytes are a text
all_ascii : (text : List ℕ) → are_printable text ≡ true → All (λ b. b < 128) text
all_ascii [] all = All-nil (λ (b : ℕ). b < 128)
all_ascii (b ∷ text) all =
    let parts = and_parts (is_printable b) (list_all is_printable text) all in
    let low : b < 128 = let test = parts.0 in grind (arith, nat_tests) in
    All-cons (λ b. b < 128) b text low (all_ascii text parts.1)

printable_is_text : (text : List ℕ) → are_printable text ≡ true → IsUtf8 text
printable_is_text text all = IsUtf8-from_ascii text (IsAscii-from_all text (all_ascii text all))

pub host_is_text : (host : List ℕ) → is_host host ≡ true → IsUtf8 host
host_is_text host is = printable_is_text host (printable_from_visible host (host_visible host is))

pub url_is_text : (text : List ℕ) → is_url_spelling text ≡ true → IsUtf8 text
url_is_text text is = printable_is_text text (url_printable text is)

-- Each field is read back from its spelling.
use Rattle.std.proofs.Common.{◌≡◌, ℕ, ◌<◌, ◌/◌, ◌%◌, Bool, true, false, ◌&&◌, ◌==◌, List, [], ◌∷◌, ◌++◌, length, get_or, take, drop, Some, refl, ap, ◌∙◌, arith, ⊎_elim, suc, zero}
use Rattle.std.specs.Prelude.{Option, IsUtf8, bytes_eq, codes, decimal, nat_lt}
use Rattle.std.specs.List.{list_all}
use Rattle.std.specs.Char.{is_ascii_digit}
use Rattle.std.proofs.lemmas.Bool.{cases_eq, and_parts, ne_eqb, both_ways}
use Rattle.std.proofs.lemmas.Bool.Decides.{nat_tests}
use Rattle.std.proofs.lemmas.Str.{is_utf8-from_IsUtf8}
use Rattle.std.proofs.lemmas.List.Folds.{list_all-append}
use Rattle.hex.specs.Hex.{IsBytes, encode_lower, encode_with, lower_digits}
use Rattle.hex.proofs.HexLemmas.{decode_of-encode_lower}
use lib.Utf8.{encode, encodes, scalar, scalars}
use Rattle.page_origin.specs.UrlText.{is_url_spelling}
use Rattle.decimal_text.proofs.Numerals.{decimal_digits}
use Rattle.entry_text.specs.Lines.{hex_text}
use Rattle.memchr.specs.Find.{Nowhere, Passes, is_byte}
use Rattle.entry_reading.specs.Entries.{IsNumber}
use Rattle.entry_reading.specs.Fields.{before, bytes_of, field_by, is_lower_digit, next_field, onwards, piece_of, text_of, url_of}
use Rattle.page_origin.proofs.Spellings.{are_visible, is_visible, list_all-weaker}

-- ---- up to a mark

-- a text is over, or goes on with the mark
abbrev pub goes_on : ℕ → List ℕ → Bool
goes_on mark [] = true
goes_on mark (b ∷ text) = b == mark

pub differs : (mark : ℕ) (p : ℕ → Bool) (b : ℕ) → p mark ≡ false → p b ≡ true → (b == mark) ≡ false
differs mark p b other is = ne_eqb b mark (λ same. both_ways (p mark) other (rw same at is))

pub before_mark : (mark : ℕ) (p : ℕ → Bool) (text rest : List ℕ) → p mark ≡ false → list_all p text ≡ true → goes_on mark rest ≡ true → before mark (text ++ rest) ≡ text
before_mark mark p [] [] other all on = refl
before_mark mark p [] (b ∷ rest) other all on = rw on refl
before_mark mark p (b ∷ text) rest other all on =
    let parts = and_parts (p b) (list_all p text) all in
    rw (differs mark p b other parts.0) (ap (λ t. b ∷ t) (before_mark mark p text rest other parts.1 on))

pub onwards_mark : (mark : ℕ) (p : ℕ → Bool) (text rest : List ℕ) → p mark ≡ false → list_all p text ≡ true → goes_on mark rest ≡ true → onwards mark (text ++ rest) ≡ rest
onwards_mark mark p [] [] other all on = refl
onwards_mark mark p [] (b ∷ rest) other all on = rw on refl
onwards_mark mark p (b ∷ text) rest other all on =
    let parts = and_parts (p b) (list_all p text) all in
    rw (differs mark p b other parts.0) (onwards_mark mark p text rest other parts.1 on)

is_false : (test : Bool) → ¬ (test ≡ true) → test ≡ false
is_false true is = absurd (is refl)
is_false false is = refl

-- a text is parted at its first mark, which is found by its place
pub parted : (mark : ℕ) (text : List ℕ) (i : ℕ) → i < length text → Nowhere (Passes (is_byte mark) text) 0 i → Passes (is_byte mark) text i → (take i text ≡ before mark text) × (drop i text ≡ onwards mark text)
parted mark [] i inside none is = absurd (omega arith)
parted mark (b ∷ text) zero inside none is = rw is (refl, refl)
parted mark (b ∷ text) (suc i) inside none is =
    let other : (b == mark) ≡ false = is_false (b == mark) (none 0 (omega arith) (omega arith)) in
    let parts = parted mark text i (omega arith) (λ k low high. none (suc k) (omega arith) (omega arith)) is in
    rw other (ap (λ t. b ∷ t) parts.0, parts.1)

-- a text without a mark is all before it
pub unparted : (mark : ℕ) (text : List ℕ) → Nowhere (Passes (is_byte mark) text) 0 (length text) → (text ≡ before mark text) × ([] ≡ onwards mark text)
unparted mark [] none = (refl, refl)
unparted mark (b ∷ text) none =
    let other : (b == mark) ≡ false = is_false (b == mark) (none 0 (omega arith) (omega arith)) in
    let parts = unparted mark text (λ k low high. none (suc k) (omega arith) (omega arith)) in
    rw other (ap (λ t. b ∷ t) parts.0, parts.1)

-- a field of visible bytes is read by itself
pub field_back : {A : Type 0} (read : List ℕ → Option A) (text rest : List ℕ) (x : A) → are_visible text ≡ true → goes_on 32 rest ≡ true → read text ≡ Some x → field_by read (32 ∷ (text ++ rest)) ≡ Some (x, rest)
unfolding next_field
field_back read text rest x visible on is =
    rw (before_mark 32 is_visible text rest refl visible on, onwards_mark 32 is_visible text rest refl visible on, is) refl

-- ---- numbers

digit_visible : (b : ℕ) → is_ascii_digit b ≡ true → is_visible b ≡ true
digit_visible b is = grind (arith, nat_tests)

pub decimal_visible : (n : ℕ) → IsNumber n → are_visible (decimal n) ≡ true
decimal_visible n small = list_all-weaker is_ascii_digit is_visible digit_visible (decimal n) (decimal_digits n small)

-- ---- hexadecimal

abbrev digits_lower : ℕ → Bool
digits_lower zero = true
digits_lower (suc n) = is_lower_digit (get_or lower_digits n 0) && digits_lower n

checked : (n : ℕ) → digits_lower n ≡ true → (d : ℕ) → d < n → is_lower_digit (get_or lower_digits d 0) ≡ true
checked zero all d small = absurd (omega arith)
checked (suc n) all d small =
    let parts = and_parts (is_lower_digit (get_or lower_digits n 0)) (digits_lower n) all in
    ⊎_elim (λ same. rw same parts.0) (λ other. checked n parts.1 d (omega arith)) (cases_eq d n)

encoded_lower : (bytes : List ℕ) → IsBytes bytes → list_all is_lower_digit (encode_lower bytes) ≡ true
unfolding encode_with
encoded_lower [] are = refl
encoded_lower (b ∷ bytes) are =
    let byte : b < 256 = are 0 in
    rw (checked 16 refl (b / 16) (omega arith), checked 16 refl (b % 16) (omega arith), encoded_lower bytes (λ i. are (suc i))) refl

lower_visible : (b : ℕ) → is_lower_digit b ≡ true → is_visible b ≡ true
lower_visible b is = grind (arith, nat_tests)

encoded_visible : (bytes : List ℕ) → IsBytes bytes → are_visible (encode_lower bytes) ≡ true
encoded_visible bytes are = list_all-weaker is_lower_digit is_visible lower_visible (encode_lower bytes) (encoded_lower bytes are)

pub hex_visible : (bytes : List ℕ) → IsBytes bytes → are_visible (hex_text bytes) ≡ true
unfolding hex_text
hex_visible [] are = refl
hex_visible (b ∷ bytes) are = encoded_visible (b ∷ bytes) are

and_false : (x : Bool) → (x && false) ≡ false
and_false true = refl
and_false false = refl

no_dash : (b : ℕ) (bytes : List ℕ) → bytes_eq (encode_lower (b ∷ bytes)) (codes "-") ≡ false
unfolding encode_with
no_dash b bytes = and_false (get_or lower_digits (b / 16) 0 == 45)

some_digits : (b : ℕ) (bytes : List ℕ) → nat_lt 0 (length (encode_lower (b ∷ bytes))) ≡ true
unfolding encode_with
some_digits b bytes = let long : 0 < length (encode_lower (b ∷ bytes)) = omega arith in grind (arith, nat_tests)

pub bytes_back : (bytes : List ℕ) → IsBytes bytes → bytes_of (hex_text bytes) ≡ Some bytes
unfolding bytes_of hex_text
bytes_back [] are = refl
bytes_back (b ∷ bytes) are =
    rw (no_dash b bytes)
    (rw (some_digits b bytes, encoded_lower (b ∷ bytes) are, decode_of-encode_lower (b ∷ bytes) are) refl)

pub piece_back : (bytes : List ℕ) → IsBytes bytes → 0 < length bytes → piece_of (hex_text bytes) ≡ Some bytes
unfolding piece_of
piece_back bytes are some =
    let one : (length bytes == 0) ≡ false = ne_eqb (length bytes) 0 (omega arith) in
    rw (bytes_back bytes are) (rw one refl)

-- ---- texts of UTF-8

abbrev is_octet : ℕ → Bool
is_octet b = nat_lt b 256

encode_bytes : (c : ℕ) → scalar c ≡ true → list_all is_octet (encode c) ≡ true
unfolding encode
encode_bytes c is = grind (arith, nat_tests)

encodes_bytes : (cs : List ℕ) → scalars cs ≡ true → list_all is_octet (encodes cs) ≡ true
encodes_bytes [] are = refl
encodes_bytes (c ∷ cs) are =
    let parts = and_parts (scalar c) (scalars cs) are in
    list_all-append is_octet (encode c) (encodes cs) ∙ rw (encode_bytes c parts.0, encodes_bytes cs parts.1) refl

are_bytes : (text : List ℕ) → list_all is_octet text ≡ true → IsBytes text
are_bytes [] all i = omega arith
are_bytes (b ∷ text) all zero = let test = (and_parts (is_octet b) (list_all is_octet text) all).0 in grind (arith, nat_tests)
are_bytes (b ∷ text) all (suc i) = are_bytes text (and_parts (is_octet b) (list_all is_octet text) all).1 i

pub text_bytes : (text : List ℕ) → IsUtf8 text → IsBytes text
text_bytes text valid = are_bytes text (rw valid.1.1 at (encodes_bytes valid.0 valid.1.0))

pub text_back : (text : List ℕ) → IsUtf8 text → text_of (hex_text text) ≡ Some text
unfolding text_of
text_back text valid = rw (bytes_back text (text_bytes text valid)) (rw (is_utf8-from_IsUtf8 text valid) refl)

pub url_back : (text : List ℕ) → is_url_spelling text ≡ true → url_of text ≡ Some text
unfolding url_of
url_back text is = rw is refl

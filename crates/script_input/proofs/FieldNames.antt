-- Names and texts of header fields, by their tests.
use Rattle.std.proofs.Common.{◌≡◌, ◌<◌, ◌≤◌, ℕ, Bool, true, false, not, ◌&&◌, List, length, reverse, refl, arith}
use Rattle.std.specs.Prelude.{nat_le, nat_lt}
use Rattle.std.specs.Str.{IsUtf8}
use Rattle.std.specs.List.{list_all}
use Rattle.std.proofs.lemmas.Bool.{and_parts}
use Rattle.std.proofs.lemmas.Bool.Decides.{nat_tests}
use Rattle.std.proofs.lemmas.List.Elements.{All-weaker}
use Rattle.std.proofs.lemmas.List.Sums.{AllPass-from_list_all, list_all-from_AllPass}
use Rattle.std.proofs.lemmas.Str.{IsUtf8-from_ascii}
use Rattle.std.proofs.lemmas.Str.Ascii.{IsAscii-from_all}
use Rattle.http_header.specs.FieldName.{IsFieldName, is_field_name}
use Rattle.http_header.specs.Token.{is_token_byte, token_test}
use Rattle.http_header.proofs.TokenLemmas.{IsFieldName-from_test}
use Rattle.mime_kind.specs.FieldText.{begins_blank, is_field_byte, is_field_text}

name_passes : (text : List ℕ) → IsFieldName text → is_field_name text ≡ true
unfolding is_token_byte
name_passes text h =
    let some : 0 < length text = h.0.0 in
    let short : length text ≤ 65535 = h.1 in
    let tokens : list_all token_test text ≡ true = list_all-from_AllPass token_test text h.0.1 in
    let a : nat_lt 0 (length text) ≡ true = grind (arith, nat_tests) in
    let b : nat_le (length text) 65535 ≡ true = grind (arith, nat_tests) in
    rw (a, tokens, b) refl

refused_by : (test : Bool) (text : List ℕ) → is_field_name text ≡ test → ¬ (IsFieldName text) → test ≡ false
refused_by true text is out = absurd (out (IsFieldName-from_test text is))
refused_by false text is out = refl

-- what is refused is no name by the test
pub name_refused : (text : List ℕ) → ¬ (IsFieldName text) → is_field_name text ≡ false
name_refused text out = refused_by (is_field_name text) text refl out

taken_by : (test : Bool) (text : List ℕ) → is_field_name text ≡ test → ¬ (¬ (IsFieldName text)) → test ≡ true
taken_by true text is taken = refl
taken_by false text is taken = absurd (taken (λ h. let passes = name_passes text h in cc))

-- what is not refused is a name by the test
pub name_taken : (text : List ℕ) → ¬ (¬ (IsFieldName text)) → is_field_name text ≡ true
name_taken text taken = taken_by (is_field_name text) text refl taken

field_byte : (b : ℕ) → is_field_byte b ≡ true → b < 128
field_byte b is = grind (arith, nat_tests)

field_utf8 : (bytes : List ℕ) → is_field_text bytes ≡ true → IsUtf8 bytes
field_utf8 bytes is =
    let front = and_parts (list_all is_field_byte bytes && not (begins_blank bytes)) (not (begins_blank (reverse bytes))) is in
    let all : list_all is_field_byte bytes ≡ true = (and_parts (list_all is_field_byte bytes) (not (begins_blank bytes)) front.0).0 in
    IsUtf8-from_ascii bytes (IsAscii-from_all bytes (All-weaker (λ b. is_field_byte b ≡ true) (λ b. b < 128) field_byte bytes (AllPass-from_list_all is_field_byte bytes all)))

no_field_by : (test : Bool) (bytes : List ℕ) → is_field_text bytes ≡ test → ¬ (IsUtf8 bytes) → test ≡ false
no_field_by true bytes is out = absurd (out (field_utf8 bytes is))
no_field_by false bytes is out = refl

-- bytes that are not UTF-8 are no field's text
pub no_field : (bytes : List ℕ) → ¬ (IsUtf8 bytes) → is_field_text bytes ≡ false
no_field bytes out = no_field_by (is_field_text bytes) bytes refl out

-- Numbers in decimal, as `parse` reads them and as they are printed.
use Rattle.std.proofs.Common.{◌≡◌, ◌<◌, ℕ, ◌^◌, Bool, true, false, not, ◌&&◌, ◌||◌, ◌==◌, List, [], ◌∷◌, length, get_or, Some, Result, Ok, Err, rules, arith, refl, ap, ⊎_elim}
use Rattle.std.specs.Prelude.{All, IsUtf8, decimal, nat_lt, slice_index}
use Rattle.std.specs.List.{list_all}
use Rattle.std.specs.Result.{result_ok, OkIff}
use Rattle.std.specs.Char.{is_ascii_digit}
use Rattle.std.specs.Str.Parse.{ParsesUnsigned, digits_value}
use Rattle.std.proofs.lemmas.Bool.{and_parts, cases_eq, ne_eqb}
use Rattle.std.proofs.lemmas.Bool.Decides.{nat_tests}
use Rattle.std.proofs.lemmas.List.Elements.{All-cons, All-nil}
use Rattle.std.proofs.lemmas.Str.{IsUtf8-from_ascii}
use Rattle.std.proofs.lemmas.Str.Ascii.{IsAscii-from_all}
use Rattle.std.proofs.lemmas.Str.Parse.{IsDigitsTest, IsNumeralModel, numerals_by_value, parse_digits}
use Rattle.std.proofs.lemmas.Fmt.{decimal_digit, decimal_nonempty, digits_decimal, digits_value-decimal, first_decimal}
use Rattle.decimal_text.specs.Numbers.{decimal_number, is_numeral, long_decimal_number, number_below}

digits_test : IsDigitsTest (λ ds. list_all is_ascii_digit ds ≡ true)
digits_test = search (rules, nat_tests)

own : IsNumeralModel (λ ds. list_all is_ascii_digit ds ≡ true) (digits_value 10)
own = numerals_by_value _ digits_test

-- ---- what is read

numeral_digits : (text : List ℕ) → is_numeral text ≡ true → list_all is_ascii_digit text ≡ true
unfolding is_numeral
numeral_digits text numeral =
    let front = and_parts (nat_lt 0 (length text) && list_all is_ascii_digit text) (length text == 1 || not (slice_index text 0 == 48)) numeral in
    (and_parts (nat_lt 0 (length text)) (list_all is_ascii_digit text) front.0).1

numeral_some : (text : List ℕ) → is_numeral text ≡ true → 0 < length text
unfolding is_numeral
numeral_some text numeral =
    let front = and_parts (nat_lt 0 (length text) && list_all is_ascii_digit text) (length text == 1 || not (slice_index text 0 == 48)) numeral in
    let some = (and_parts (nat_lt 0 (length text)) (list_all is_ascii_digit text) front.0).0 in
    grind (arith, nat_tests, some)

all_ascii : (digits : List ℕ) → list_all is_ascii_digit digits ≡ true → All (λ b. b < 128) digits
all_ascii [] all = All-nil (λ (b : ℕ). b < 128)
all_ascii (b ∷ digits) all =
    let parts = and_parts (is_ascii_digit b) (list_all is_ascii_digit digits) all in
    let low : b < 128 = let test = parts.0 in grind (arith, nat_tests) in
    All-cons (λ b. b < 128) b digits low (all_ascii digits parts.1)

-- a numeral is a text
pub numeral_is_text : (text : List ℕ) → is_numeral text ≡ true → IsUtf8 text
numeral_is_text text numeral = IsUtf8-from_ascii text (IsAscii-from_all text (all_ascii text (numeral_digits text numeral)))

read_below : {E : Type 0} (limit : ℕ) (text : List ℕ) (r : Result ℕ E) → is_numeral text ≡ true → OkIff r ((0 < length text) × (digits_value 10 text < limit)) (digits_value 10 text) → result_ok r ≡ number_below limit text
unfolding number_below
read_below limit text (Ok n) numeral is =
    let below : digits_value 10 text < limit = is.0.1 in
    let test : nat_lt (digits_value 10 text) (limit) ≡ true = grind (arith, nat_tests) in
    rw (numeral, test) (ap Some is.1)
read_below limit text (Err e) numeral is =
    let some = numeral_some text numeral in
    let above : ¬ (digits_value 10 text < limit) = λ below. is (some, below) in
    let test : nat_lt (digits_value 10 text) (limit) ≡ false = grind (arith, nat_tests) in
    rw (numeral, test) refl

-- a numeral is read as its number
pub numeral_read : {E : Type 0} (text : List ℕ) (r : Result ℕ E) → is_numeral text ≡ true → ParsesUnsigned 32 10 text r → result_ok r ≡ decimal_number text
unfolding decimal_number number_below
numeral_read text r numeral parsed = read_below (2 ^ 32) text r numeral (parse_digits own 32 text r parsed (numeral_digits text numeral))

-- a numeral is read as its long number
pub long_numeral_read : {E : Type 0} (text : List ℕ) (r : Result ℕ E) → is_numeral text ≡ true → ParsesUnsigned 64 10 text r → result_ok r ≡ long_decimal_number text
long_numeral_read text r numeral parsed = read_below (2 ^ 64) text r numeral (parse_digits own 64 text r parsed (numeral_digits text numeral))

-- ---- what is printed

pub decimal_digits : (n : ℕ) → n < 2 ^ 32 → list_all is_ascii_digit (decimal n) ≡ true
decimal_digits n small = digits_decimal own n (omega arith)

or_true : (test : Bool) → (test || true) ≡ true
or_true true = refl
or_true false = refl

-- no zero stands first, but for the zero itself
no_leading_zero : (n : ℕ) → n < 2 ^ 32 → (length (decimal n) == 1 || not (slice_index (decimal n) 0 == 48)) ≡ true
no_leading_zero n small =
    ⊎_elim
    (λ zero. rw (zero, decimal_digit 0 (omega arith)) refl)
    (λ some.
    let first : 48 < get_or (decimal n) 0 0 = first_decimal n (omega arith) (omega arith) in
    let other : (slice_index (decimal n) 0 == 48) ≡ false = ne_eqb (get_or (decimal n) 0 0) 48 (omega arith) in
    rw other (or_true (length (decimal n) == 1)))
    (cases_eq n 0)

decimal_is_numeral : (n : ℕ) → n < 2 ^ 32 → is_numeral (decimal n) ≡ true
unfolding is_numeral
decimal_is_numeral n small =
    let long = decimal_nonempty n (omega arith) in
    let some : nat_lt 0 (length (decimal n)) ≡ true = grind (arith, nat_tests) in
    rw (some, decimal_digits n small, no_leading_zero n small) refl

-- a number is read back from its text
pub number_back : (n : ℕ) → n < 2 ^ 32 → decimal_number (decimal n) ≡ Some n
unfolding decimal_number number_below
number_back n small =
    let value : digits_value 10 (decimal n) ≡ n = digits_value-decimal own n (omega arith) in
    let test : nat_lt n (2 ^ 32) ≡ true = grind (arith, nat_tests) in
    rw (decimal_is_numeral n small, value, test) refl

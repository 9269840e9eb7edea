-- What is read of a field is what is spelled there.
use Rattle.std.proofs.Common.{◌≡◌, ◌⊎◌, ℕ, ◌+◌, ◌*◌, ◌<◌, ◌/◌, ◌%◌, ◌^◌, Bool, true, false, not, ◌&&◌, ◌||◌, ◌==◌, List, [], ◌∷◌, ◌++◌, length, get_or, drop, Some, None, Ok, Err, refl, sym, ap, ◌∙◌, subst, append_assoc, append-nil, eq-eqb, arith, rules, inl, inr, ⊎_elim, suc, zero}
use Rattle.std.specs.Prelude.{Option, Result, bytes_eq, codes, decimal, nat_eq, nat_lt, slice_index, if◌then◌else◌}
use Rattle.std.specs.Option.{option_map_or}
use Rattle.std.specs.List.{list_all, starts_with}
use Rattle.std.specs.Result.{result_ok}
use Rattle.std.specs.Char.{is_ascii_digit}
use Rattle.std.specs.Str.{is_utf8}
use Rattle.std.specs.Str.Parse.{digits_value}
use Rattle.std.proofs.lemmas.Bool.{and_parts, cases_Bool, cases_eq, eqb-true}
use Rattle.std.proofs.lemmas.Bool.Decides.{Decides-eqb, nat_tests}
use Rattle.std.proofs.lemmas.Fmt.{decimal-digits_value}
use Rattle.std.proofs.lemmas.Option.{none-some, same_Some}
use Rattle.std.proofs.lemmas.Slice.Eq.{bytes_eq-Decides, starts_is}
use Rattle.std.proofs.lemmas.Str.Parse.{IsDigitsTest, IsNumeralModel, numerals_by_value}
use Rattle.call_answers.specs.Chains.{◌>>=◌}
use Rattle.hex.specs.Hex.{decode_of, decode_pairs, digit_or_error, encode_lower, encode_with, hex_digit_value, lower_digits, ◌>>=◌ as hex_bind}
use Rattle.hex.specs.declared.error.FromHexError.{FromHexError}
use Rattle.hex.specs.declared.error.FromHexError.TheVariants.{OddLength}
use Rattle.decimal_text.specs.Numbers.{decimal_number, is_numeral, number_below}
use Rattle.entry_text.specs.Lines.{field, hex_text, number as number_text}
use Rattle.entry_reading.specs.Fields.{before, bytes_of, field_by, is_lower_digit, next_field, onwards, past, past_arrow, piece_of, text_of, url_of, whole}
use Rattle.page_origin.specs.UrlText.{is_url_spelling}

-- ---- steps

-- a step after a step that gave something
pub bind_some : {A B : Type 0} (o : Option A) (f : A → Option B) (y : B) → (o >>= f) ≡ Some y → (x : A) × (o ≡ Some x) × (f x ≡ Some y)
bind_some None f y is = absurd (none-some y is)
bind_some (Some x) f y is = (x, refl, is)

-- which of two ways gave something
pub chosen : {A : Type 0} (test : Bool) (x y : Option A) (p : A) → (if test then x else y) ≡ Some p → ((test ≡ true) × (x ≡ Some p)) ⊎ ((test ≡ false) × (y ≡ Some p))
chosen true x y p is = inl (refl, is)
chosen false x y p is = inr (refl, is)

-- a test that had to pass
pub passed : {A : Type 0} (test : Bool) (x : Option A) (p : A) → (if test then x else None) ≡ Some p → (test ≡ true) × (x ≡ Some p)
passed true x p is = (refl, is)
passed false x p is = absurd (none-some p is)

-- ---- what stands at the front of a text, and what behind it

pub record Front (piece rest text : List ℕ) : Type 0 where
  pub whole : piece ++ rest ≡ text

pub joined : {a b mid rest text : List ℕ} → Front a mid text → Front b rest mid → Front (a ++ b) rest text
joined {a = a} {b = b} {rest = rest} first second = record { whole = append_assoc a b rest ∙ ap (λ t. a ++ t) second.whole ∙ first.whole }

-- a word and what stands behind it
pub word_first : (word text : List ℕ) → Front word text (word ++ text)
word_first word text = record { whole = refl }

pub around_whole : (mark : ℕ) (text : List ℕ) → before mark text ++ onwards mark text ≡ text
around_whole mark [] = refl
around_whole mark (b ∷ text) =
    ⊎_elim (λ is. rw is refl) (λ other. rw other (ap (λ t. b ∷ t) (around_whole mark text))) (cases_Bool (b == mark))

pub past_is : (mark : ℕ) (text rest : List ℕ) → past mark text ≡ Some rest → mark ∷ rest ≡ text
past_is mark [] rest is = absurd (none-some rest is)
past_is mark (b ∷ text) rest is =
    let test = passed (b == mark) (Some text) rest is in
    let first : b ≡ mark = eqb-true b mark test.0 in
    let behind : text ≡ rest = same_Some text rest test.1 in
    rw (first, behind) refl

pub arrow_there : (text rest : List ℕ) → past_arrow text ≡ Some rest → Front (codes " => ") rest text
arrow_there text rest is =
    let test = passed (starts_with nat_eq text (codes " => ")) (Some (drop 4 text)) rest is in
    let whole : text ≡ codes " => " ++ drop 4 text = (starts_is Decides-eqb text (codes " => ") (starts_with nat_eq text (codes " => ")) refl).0 test.0 in
    let behind : drop 4 text ≡ rest = same_Some (drop 4 text) rest test.1 in
    record { whole = ap (λ t. codes " => " ++ t) (sym behind) ∙ sym whole }

-- the field behind a space
pub field_there : (text : List ℕ) (p : List ℕ × List ℕ) → next_field text ≡ Some p → Front (field p.0) p.1 text
unfolding next_field
field_there text p is =
    let space = bind_some (past 32 text) (λ rest. Some (before 32 rest, onwards 32 rest)) p is in
    let parts : (before 32 space.0, onwards 32 space.0) ≡ p = same_Some (before 32 space.0, onwards 32 space.0) p space.2 in
    let fieldwise : 32 ∷ (before 32 space.0 ++ onwards 32 space.0) ≡ text = ap (λ t. 32 ∷ t) (around_whole 32 space.0) ∙ past_is 32 text space.0 space.1 in
    record { whole = subst (λ (q : List ℕ × List ℕ). 32 ∷ (q.0 ++ q.1) ≡ text) parts fieldwise }

-- a value that is read of the field behind a space
pub value_there : {A : Type 0} (read : List ℕ → Option A) (spell : A → List ℕ) → ((text : List ℕ) (x : A) → read text ≡ Some x → spell x ≡ text) → (text : List ℕ) (p : A × List ℕ) → field_by read text ≡ Some p → Front (field (spell p.0)) p.1 text
value_there {A = A} read spell spelled text p is =
    let next = bind_some (next_field text) (λ field. read field.0 >>= λ x. Some (x, field.1)) p is in
    let value = bind_some (read next.0.0) (λ x. Some (x, next.0.1)) p next.2 in
    let parts : (value.0, next.0.1) ≡ p = same_Some (value.0, next.0.1) p value.2 in
    let there : 32 ∷ (spell value.0 ++ next.0.1) ≡ text = ap (λ t. 32 ∷ (t ++ next.0.1)) (spelled next.0.0 value.0 value.1) ∙ (field_there text next.0 next.1).whole in
    record { whole = subst (λ (q : A × List ℕ). 32 ∷ (spell q.0 ++ q.1) ≡ text) parts there }

-- what begins with a word, behind a space
pub worded : {A : Type 0} (by : List ℕ → List ℕ → Option (A × List ℕ)) (spell : A → List ℕ) → ((word text : List ℕ) (p : A × List ℕ) → by word text ≡ Some p → Front (spell p.0) p.1 (word ++ text)) → (text : List ℕ) (p : A × List ℕ) → (next_field text >>= λ word. by word.0 word.1) ≡ Some p → Front (field (spell p.0)) p.1 text
worded by spell spelled text p is =
    let word = bind_some (next_field text) (λ word. by word.0 word.1) p is in
    record { whole = ap (λ t. 32 ∷ t) (spelled word.0.0 word.0.1 p word.2).whole ∙ (field_there text word.0 word.1).whole }

-- one of several words
pub by_word : {A : Type 0} (P : List ℕ → Type 0) (word name : List ℕ) (x y : Option A) (p : A) → (x ≡ Some p → P name) → (y ≡ Some p → P word) → (if bytes_eq word name then x else y) ≡ Some p → P word
by_word P word name x y p this others is =
    ⊎_elim
    (λ yes. subst P (sym ((bytes_eq-Decides word name).0 yes.0)) (this yes.1))
    (λ no. others no.1)
    (chosen (bytes_eq word name) x y p is)

-- none of them
pub no_word : {A : Type 0} (P : Type 0) (p : A) → None ≡ Some p → P
no_word P p is = absurd (none-some p is)

-- ---- numbers

digits_test : IsDigitsTest (λ ds. list_all is_ascii_digit ds ≡ true)
digits_test = search (rules, nat_tests)

own : IsNumeralModel (λ ds. list_all is_ascii_digit ds ≡ true) (digits_value 10)
own = numerals_by_value _ digits_test

lone_zero : (one leads : Bool) → (one || not leads) ≡ true → leads ≡ true → one ≡ true
lone_zero true leads is first = refl
lone_zero false true is first = is
lone_zero false false is first = first

numeral_is : (text : List ℕ) → is_numeral text ≡ true → digits_value 10 text < 2 ^ 64 → decimal (digits_value 10 text) ≡ text
unfolding is_numeral
numeral_is text numeral small =
    let front = and_parts (nat_lt 0 (length text) && list_all is_ascii_digit text) (length text == 1 || not (slice_index text 0 == 48)) numeral in
    let some = and_parts (nat_lt 0 (length text)) (list_all is_ascii_digit text) front.0 in
    let long : 0 < length text = let test = some.0 in grind (arith, nat_tests) in
    let lead : get_or text 0 0 ≡ 48 → length text ≡ 1 = λ zero. eqb-true (length text) 1 (lone_zero (length text == 1) (slice_index text 0 == 48) front.1 (eq-eqb (get_or text 0 0) 48 zero)) in
    decimal-digits_value own text some.1 long lead small

pub decimal_is : (text : List ℕ) (n : ℕ) → decimal_number text ≡ Some n → decimal n ≡ text
unfolding decimal_number number_below
decimal_is text n is =
    let test = passed (is_numeral text && nat_lt (digits_value 10 text) (2 ^ 32)) (Some (digits_value 10 text)) n is in
    let parts = and_parts (is_numeral text) (nat_lt (digits_value 10 text) (2 ^ 32)) test.0 in
    let small : digits_value 10 text < 2 ^ 64 = let below = parts.1 in grind (arith, nat_tests) in
    let value : digits_value 10 text ≡ n = same_Some (digits_value 10 text) n test.1 in
    ap decimal (sym value) ∙ numeral_is text parts.0 small

pub number_there : (text : List ℕ) (p : ℕ × List ℕ) → field_by decimal_number text ≡ Some p → Front (number_text p.0) p.1 text
number_there = value_there decimal_number decimal decimal_is

-- ---- hexadecimal

abbrev digit_again : ℕ → Bool
digit_again b = if is_lower_digit b then option_map_or (λ v. get_or lower_digits v 0 == b) (hex_digit_value b) true else true

abbrev digits_again : ℕ → Bool
digits_again zero = true
digits_again (suc n) = digit_again n && digits_again n

again : (n : ℕ) → digits_again n ≡ true → (b : ℕ) → b < n → digit_again b ≡ true
again zero all b small = absurd (omega arith)
again (suc n) all b small =
    let parts = and_parts (digit_again n) (digits_again n) all in
    ⊎_elim (λ same. rw same parts.0) (λ other. again n parts.1 b (omega arith)) (cases_eq b n)

-- a digit is read as its place among the digits
digit_is : (b v : ℕ) → is_lower_digit b ≡ true → hex_digit_value b ≡ Some v → get_or lower_digits v 0 ≡ b
digit_is b v lower value =
    let small : b < 103 = grind (arith, nat_tests) in
    eqb-true (get_or lower_digits v 0) b (rw (lower, value) at (again 103 refl b small))

digit_small : (b v : ℕ) → hex_digit_value b ≡ Some v → v < 16
digit_small b v is = grind (arith)

record Pair (a b : ℕ) (later : Result (List ℕ) FromHexError) (bytes : List ℕ) : Type 0 where
  high : ℕ
  low : ℕ
  rest : List ℕ
  high_is : hex_digit_value a ≡ Some high
  low_is : hex_digit_value b ≡ Some low
  rest_is : later ≡ Ok rest
  whole : (high * 16 + low) ∷ rest ≡ bytes

abbrev some_bytes : Result (List ℕ) FromHexError → List ℕ
some_bytes (Ok bytes) = bytes
some_bytes (Err e) = []

pair_there : (i a b : ℕ) (bytes : List ℕ) (later : Result (List ℕ) FromHexError) (high low : Option ℕ) → hex_digit_value a ≡ high → hex_digit_value b ≡ low
    → hex_bind (hex_bind (digit_or_error a i high) (λ h. hex_bind (digit_or_error b (i + 1) low) (λ l. Ok (h * 16 + l)))) (λ byte. hex_bind later (λ bs. Ok (byte ∷ bs))) ≡ Ok bytes
    → Pair a b later bytes
pair_there i a b bytes (Ok rest) (Some high) (Some low) x y is = record { high = high; low = low; rest = rest; high_is = x; low_is = y; rest_is = refl; whole = ap some_bytes is }
pair_there i a b bytes (Err e) (Some high) (Some low) x y is = cc is
pair_there i a b bytes later None low x y is = cc is
pair_there i a b bytes later (Some high) None x y is = cc is

pairs_are : (i : ℕ) (text bytes : List ℕ) → list_all is_lower_digit text ≡ true → decode_pairs i text ≡ Ok bytes → encode_lower bytes ≡ text
unfolding decode_pairs encode_with
pairs_are i [] bytes lower is = let none : [] ≡ bytes = ap some_bytes is in rw (← none) refl
pairs_are i (a ∷ []) bytes lower is = cc is
pairs_are i (a ∷ b ∷ text) bytes lower is =
    let first = and_parts (is_lower_digit a) (list_all is_lower_digit (b ∷ text)) lower in
    let second = and_parts (is_lower_digit b) (list_all is_lower_digit text) first.1 in
    let pair = pair_there i a b bytes (decode_pairs (i + 2) text) (hex_digit_value a) (hex_digit_value b) refl refl is in
    let high : pair.high < 16 = digit_small a pair.high pair.high_is in
    let low : pair.low < 16 = digit_small b pair.low pair.low_is in
    let upper : (pair.high * 16 + pair.low) / 16 ≡ pair.high = omega arith in
    let under : (pair.high * 16 + pair.low) % 16 ≡ pair.low = omega arith in
    let rest : encode_lower pair.rest ≡ text = pairs_are (i + 2) text pair.rest second.1 pair.rest_is in
    ap encode_lower (sym pair.whole)
    ∙ rw (upper, under, digit_is a pair.high first.0 pair.high_is, digit_is b pair.low second.0 pair.low_is, rest) refl

decoded : (odd : Bool) (pairs : Result (List ℕ) FromHexError) (bytes : List ℕ) → result_ok (if odd then Err OddLength else pairs) ≡ Some bytes → pairs ≡ Ok bytes
decoded true pairs bytes is = absurd (none-some bytes is)
decoded false (Ok found) bytes is = ap (λ (x : List ℕ). Ok x) (same_Some found bytes is)
decoded false (Err e) bytes is = absurd (none-some bytes is)

some_hex : (text bytes : List ℕ) → nat_lt 0 (length text) ≡ true → encode_lower bytes ≡ text → hex_text bytes ≡ text
unfolding encode_with hex_text
some_hex text [] some is = let never : nat_lt 0 (length text) ≡ false = rw (← is) refl in absurd (cc)
some_hex text (b ∷ bytes) some is = is

pub bytes_are : (text bytes : List ℕ) → bytes_of text ≡ Some bytes → hex_text bytes ≡ text
unfolding bytes_of hex_text
bytes_are text bytes is =
    ⊎_elim
    (λ dash. let none : [] ≡ bytes = same_Some [] bytes dash.1 in ap hex_text (sym none) ∙ sym ((bytes_eq-Decides text (codes "-")).0 dash.0))
    (λ digits.
    let test = passed (nat_lt 0 (length text) && list_all is_lower_digit text) (result_ok (decode_of text)) bytes digits.1 in
    let parts = and_parts (nat_lt 0 (length text)) (list_all is_lower_digit text) test.0 in
    some_hex text bytes parts.0 (pairs_are 0 text bytes parts.1 (decoded (length text % 2 == 1) (decode_pairs 0 text) bytes test.1)))
    (chosen (bytes_eq text (codes "-")) (Some []) _ bytes is)

pub text_is : (text bytes : List ℕ) → text_of text ≡ Some bytes → hex_text bytes ≡ text
unfolding text_of
text_is text bytes is =
    let found = bind_some (bytes_of text) (λ x. if is_utf8 x then Some x else None) bytes is in
    let test = passed (is_utf8 found.0) (Some found.0) bytes found.2 in
    let same : found.0 ≡ bytes = same_Some found.0 bytes test.1 in
    ap hex_text (sym same) ∙ bytes_are text found.0 found.1

pub piece_is : (text bytes : List ℕ) → piece_of text ≡ Some bytes → hex_text bytes ≡ text
unfolding piece_of
piece_is text bytes is =
    let found = bind_some (bytes_of text) (λ x. if length x == 0 then None else Some x) bytes is in
    ⊎_elim
    (λ none. absurd (none-some bytes none.1))
    (λ some. ap hex_text (sym (same_Some found.0 bytes some.1)) ∙ bytes_are text found.0 found.1)
    (chosen (length found.0 == 0) None (Some found.0) bytes found.2)

pub text_there : (text : List ℕ) (p : List ℕ × List ℕ) → field_by text_of text ≡ Some p → Front (field (hex_text p.0)) p.1 text
text_there = value_there text_of hex_text text_is

pub piece_there : (text : List ℕ) (p : List ℕ × List ℕ) → field_by piece_of text ≡ Some p → Front (field (hex_text p.0)) p.1 text
piece_there = value_there piece_of hex_text piece_is

-- ---- URLs

pub url_is : (text last : List ℕ) → url_of text ≡ Some last → last ≡ text
unfolding url_of
url_is text last is = sym (same_Some text last (passed (is_url_spelling text) (Some text) last is).1)

-- ---- all of a text

pub nothing_left : (rest : List ℕ) → (length rest == 0) ≡ true → rest ≡ []
nothing_left [] none = refl
nothing_left (b ∷ rest) none = let never : suc (length rest) ≡ 0 = eqb-true (suc (length rest)) 0 none in absurd (omega arith)

-- what is read of all of a text spells it
pub all_there : {A : Type 0} (spell : A → List ℕ) (text : List ℕ) (read : Option (A × List ℕ)) (x : A) → ((p : A × List ℕ) → read ≡ Some p → Front (spell p.0) p.1 text) → whole read ≡ Some x → spell x ≡ text
all_there spell text read x spelled is =
    let found = bind_some read (λ p. if length p.1 == 0 then Some p.0 else None) x is in
    let test = passed (length found.0.1 == 0) (Some found.0.0) x found.2 in
    ap spell (sym (same_Some found.0.0 x test.1))
    ∙ sym (append-nil (spell found.0.0))
    ∙ ap (λ t. spell found.0.0 ++ t) (sym (nothing_left found.0.1 test.0))
    ∙ (spelled found.0 found.1).whole

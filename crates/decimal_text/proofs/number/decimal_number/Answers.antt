use Rattle.std.proofs.Common.{Result, Ok, Err, ◌≡◌, ◌∙◌, sym, true, refl}
use Rattle.std.specs.Prelude.{MatchResult, IsOk}
use Rattle.std.specs.Str.Parse.{ParsesUnsigned}
use Rattle.decimal_text.specs.Numbers.{decimal_number, is_numeral, number_below}
use Rattle.decimal_text.proofs.Numerals.{numeral_is_text, numeral_read}
use Rattle.decimal_text.proofs.number.decimal_number.Goals as goal

never_an_error : {T E : Type 0} (r : Result T E) (P : T → Type 0) (Q : E → Type 0) → MatchResult r P Q → ((e : E) → Q e → ⊥) → IsOk r
never_an_error (Ok x) P Q is never = refl
never_an_error (Err e) P Q is never = absurd (never e is)

pub returns-then-not-is_numeral : goal.returns-then-not-is_numeral
unfolding decimal_number number_below
returns-then-not-is_numeral c = rw (sym c.is_numeral.ensures ∙ c.if-not-is_numeral.true) refl

pub unwrap-digits-requires : goal.unwrap-digits-requires
unwrap-digits-requires c =
    let numeral : is_numeral c.args.text.now ≡ true = sym c.is_numeral.ensures ∙ c.if-not-is_numeral.false in
    never_an_error _ _ _ c.from_utf8.ensures.cases (λ e bad. bad.0 (numeral_is_text c.args.text.now numeral))

pub returns : goal.returns
returns c =
    let numeral : is_numeral c.args.text.now ≡ true = sym c.is_numeral.ensures ∙ c.if-not-is_numeral.false in
    let same : c.unwrap-digits.result.now ≡ c.args.text.now = (rw c.unwrap-digits.ensures at c.from_utf8.ensures.cases).0 in
    let read : ParsesUnsigned 32 10 c.args.text.now c.parse.result = rw same at c.parse.ensures.value.0 in
    c.ok.ensures.value ∙ numeral_read c.args.text.now c.parse.result numeral read

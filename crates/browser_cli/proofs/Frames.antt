-- One input has one frame: the number ends at the first line feed.
use Rattle.std.proofs.Common.{◌≡◌, ◌∙◌, ◌+◌, ◌-◌, ◌++◌, ◌∷◌, ◌&&◌, ◌||◌, ◌==◌, not, ◌≤◌, ◌<◌, ◌^◌, [], Bool, List, None, Option, Some, true, false, ap, arith, drop, get_or, length, length-append, refl, subst, suc, sym, take, zero, ℕ}
use Rattle.std.specs.Prelude.{if◌then◌else◌, nat_lt, slice_index}
use Rattle.std.specs.List.{list_all}
use Rattle.std.specs.Option.{MatchOption}
use Rattle.std.specs.Char.{is_ascii_digit}
use Rattle.std.specs.Str.Parse.{digits_value}
use Rattle.std.proofs.lemmas.Bool.{and_from, and_parts, eqb-true, false≢true}
use Rattle.std.proofs.lemmas.Bool.Decides.{nat_tests}
use Rattle.decimal_text.specs.Numbers.{decimal_number, is_numeral, number_below}
use Rattle.memchr.specs.Find.{Nowhere, Passes, is_byte}
use Rattle.std.proofs.Math.Seq.{drop-cons, take-length}
use Rattle.std.proofs.lemmas.List.{length-drop, take-append-drop}
use Rattle.std.proofs.lemmas.List.Folds.{list_all_more}
use Rattle.browser_cli.specs.Commands.{HasNoCut, HasNoFrame, IsCut, is_no_feed, script_limit}

-- two cuts at the first line feed are one
pub same_cut : (a b c d : List ℕ) → list_all is_no_feed a ≡ true → list_all is_no_feed c ≡ true → a ++ 10 ∷ b ≡ c ++ 10 ∷ d → (a ≡ c) × (b ≡ d)
same_cut [] b [] d all others same = (refl, cc)
same_cut [] b (x ∷ c) d all others same =
    let parts = and_parts (is_no_feed x) (list_all is_no_feed c) others in
    let feed : 10 ≡ x = cc in
    absurd (false≢true (rw (sym feed) at parts.0))
same_cut (x ∷ a) b [] d all others same =
    let parts = and_parts (is_no_feed x) (list_all is_no_feed a) all in
    let feed : x ≡ 10 = cc in
    absurd (false≢true (rw feed at parts.0))
same_cut (x ∷ a) b (y ∷ c) d all others same =
    let tails : a ++ 10 ∷ b ≡ c ++ 10 ∷ d = cc in
    let firsts : x ≡ y = cc in
    let rest = same_cut a b c d (and_parts (is_no_feed x) (list_all is_no_feed a) all).1 (and_parts (is_no_feed y) (list_all is_no_feed c) others).1 tails in
    (cc, rest.1)

no_feed_digits : (text : List ℕ) → list_all is_ascii_digit text ≡ true → list_all is_no_feed text ≡ true
no_feed_digits [] all = refl
no_feed_digits (b ∷ text) all =
    let parts = and_parts (is_ascii_digit b) (list_all is_ascii_digit text) all in
    let other : is_no_feed b ≡ true = let test = parts.0 in grind (arith, nat_tests) in
    and_from (is_no_feed b) (list_all is_no_feed text) other (no_feed_digits text parts.1)

is_numeral_digits : (text : List ℕ) → is_numeral text ≡ true → list_all is_ascii_digit text ≡ true
unfolding is_numeral
is_numeral_digits text numeral =
    let front = and_parts (nat_lt 0 (length text) && list_all is_ascii_digit text) (length text == 1 || not (slice_index text 0 == 48)) numeral in
    (and_parts (nat_lt 0 (length text)) (list_all is_ascii_digit text) front.0).1

some_when : (test : Bool) (m n : ℕ) → (if test then Some m else None) ≡ Some n → test ≡ true
some_when true m n is = refl
some_when false m n is = absurd cc

pub number_digits : (text : List ℕ) (n : ℕ) → decimal_number text ≡ Some n → list_all is_no_feed text ≡ true
unfolding decimal_number number_below
number_digits text n is =
    let test = some_when (is_numeral text && nat_lt (digits_value 10 text) (2 ^ 32)) (digits_value 10 text) n is in
    no_feed_digits text (is_numeral_digits text (and_parts (is_numeral text) (nat_lt (digits_value 10 text) (2 ^ 32)) test).0)

-- the cut of a text whose first line is known
cut_parts : (rest number more script text : List ℕ) → rest ≡ number ++ 10 ∷ more → list_all is_no_feed number ≡ true → IsCut rest script text
    → (decimal_number number ≡ Some (length script)) × (more ≡ script ++ text)
cut_parts rest number more script text is all cut =
    let same : number ++ 10 ∷ more ≡ cut.number ++ 10 ∷ (script ++ text) = sym is ∙ cut.whole in
    let parts = same_cut number more cut.number (script ++ text) all (number_digits cut.number (length script) cut.is_length) same in
    (ap decimal_number parts.0 ∙ cut.is_length, parts.1)

-- the first line is no number
pub no_length : (rest number more : List ℕ) → rest ≡ number ++ 10 ∷ more → list_all is_no_feed number ≡ true → decimal_number number ≡ None → HasNoCut rest
no_length rest number more is all none script text cut =
    let parts = cut_parts rest number more script text is all cut in
    let both : None ≡ Some (length script) = sym none ∙ parts.0 in
    absurd cc

-- there are fewer bytes than the first line says
pub too_short : (rest number more : List ℕ) (n : ℕ) → rest ≡ number ++ 10 ∷ more → list_all is_no_feed number ≡ true → decimal_number number ≡ Some n → length more < n → HasNoCut rest
too_short rest number more n is all some short script text cut =
    let parts = cut_parts rest number more script text is all cut in
    let both : Some n ≡ Some (length script) = sym some ∙ parts.0 in
    let number_is : n ≡ length script = cc in
    let long : length more ≡ length script + length text = ap length parts.1 ∙ length-append script text in
    absurd (omega arith)

-- the first line says more than a script may have
pub too_long : (rest number more : List ℕ) (n : ℕ) → rest ≡ number ++ 10 ∷ more → list_all is_no_feed number ≡ true → decimal_number number ≡ Some n → script_limit < n → HasNoCut rest
too_long rest number more n is all some long script text cut =
    let parts = cut_parts rest number more script text is all cut in
    let both : Some n ≡ Some (length script) = sym some ∙ parts.0 in
    let number_is : n ≡ length script = cc in
    let fits = cut.fits in
    absurd (omega arith)

-- a frame is cut behind its word
pub no_frame : (input rest : List ℕ) → rest ≡ drop 7 input → HasNoCut rest → HasNoFrame input
no_frame input rest is none script text framed =
    let same : rest ≡ framed.rest = is ∙ ap (drop 7) framed.word in
    none script text (subst (λ r. IsCut r script text) (sym same) framed.is_cut)

-- nothing, of the two cases of an option
pub none_case : {A P : Type 0} (Q : A → Type 0) {x : Option A} → x ≡ None → MatchOption x P Q → P
none_case {P = P} Q is cases = subst (λ x. MatchOption x P Q) is cases

not_true : (test : Bool) → ¬ (test ≡ true) → not test ≡ true
not_true true is = absurd (is refl)
not_true false is = refl

-- no line feed stands below a place before which none is found
pub no_feeds : (text : List ℕ) (n : ℕ) → n ≤ length text → Nowhere (Passes (is_byte 10) text) 0 n → list_all is_no_feed (take n text) ≡ true
no_feeds text zero low none = refl
no_feeds text (suc n) low none =
    let before = no_feeds text n (omega arith) (λ k from to. none k from (omega arith)) in
    let other : is_no_feed (get_or text n 0) ≡ true = not_true (get_or text n 0 == 10) (none n (omega arith) (omega arith)) in
    let step : n + 1 ≡ suc n = omega arith in
    subst (λ m. list_all is_no_feed (take m text) ≡ true) step
    (list_all_more is_no_feed text n 0 (omega arith) ∙ and_from (list_all is_no_feed (take n text)) (is_no_feed (get_or text n 0)) before other)

-- a text is cut at a byte of it
pub cut_at_byte : (text : List ℕ) (n : ℕ) → n < length text → Passes (is_byte 10) text n → text ≡ take n text ++ 10 ∷ drop (n + 1) text
cut_at_byte text n within is =
    let feed : get_or text n 0 ≡ 10 = eqb-true (get_or text n 0) 10 is in
    let step : suc n ≡ n + 1 = omega arith in
    sym (take-append-drop n text) ∙ ap (λ rest. take n text ++ rest)
    (drop-cons text n 0 within ∙ ap (λ b. b ∷ drop (suc n) text) feed ∙ ap (λ m. 10 ∷ drop m text) step)

-- the same, of the bytes behind it as they are taken
pub cut_rest : (text : List ℕ) (n : ℕ) → n < length text → Passes (is_byte 10) text n → text ≡ take n text ++ 10 ∷ take (length text - (n + 1)) (drop (n + 1) text)
cut_rest text n within is =
    let rest = drop (n + 1) text in
    let count : length text - (n + 1) ≡ length rest = sym (length-drop (n + 1) text) in
    let all : take (length text - (n + 1)) rest ≡ rest = ap (λ m. take m rest) count ∙ take-length rest in
    cut_at_byte text n within is ∙ ap (λ r. take n text ++ 10 ∷ r) (sym all)

-- a text without a line feed
pub no_feeds_at_all : (text : List ℕ) → Nowhere (Passes (is_byte 10) text) 0 (length text) → list_all is_no_feed text ≡ true
no_feeds_at_all text none = subst (λ t. list_all is_no_feed t ≡ true) (take-length text) (no_feeds text (length text) (omega arith) none)

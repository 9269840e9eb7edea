-- Words of lines.
use Rattle.std.proofs.Common.{◌≡◌, ℕ, ◌<◌, List, [], ◌∷◌, length, Bool, true, false, not, Result, Ok, Err, arith, unwrap_or, ◌≢◌, refl}
use Rattle.std.specs.Result.{MatchResult, result_ok}
use Rattle.std.specs.Option.{MatchOption}
use denote.Ref.{Bor}
use Rattle.std.specs.List.{position, position_or_len, All}
use Rattle.std.specs.Str.{IsUtf8}
use Rattle.std.proofs.lemmas.Bool.Decides.{nat_tests}
use Rattle.std.proofs.lemmas.List.Sums.{prefix_len-le-length}
use Rattle.std.proofs.lemmas.Str.{IsUtf8-from_ascii}
use Rattle.std.proofs.lemmas.Str.Ascii.{IsAscii-from_all}
use Rattle.public_suffix.specs.RuleLines.{has_high_byte, is_white_space, is_exception, is_passed_over, word_of}

-- the first place that passes, or the length
pub position_or_length : (line : List ℕ) → unwrap_or (position is_white_space line) (length line) ≡ position_or_len is_white_space line
position_or_length line = grind (arith, nat_tests, prefix_len-le-length (λ b. not (is_white_space b)) line)

all_low : (word : List ℕ) → has_high_byte word ≡ false → All (λ b. b < 128) word
all_low [] low = grind arith
all_low (b ∷ word) low = let rest : has_high_byte word ≡ false = grind (arith, nat_tests, low) in let h = all_low word rest in grind (arith, nat_tests)

-- a word with no byte above 127 is text
pub low_is_utf8 : (word : List ℕ) → has_high_byte word ≡ false → IsUtf8 word
low_is_utf8 word low = IsUtf8-from_ascii word (IsAscii-from_all word (all_low word low))

-- a line that is not passed over has a word that is text
pub word_is_utf8 : (line : List ℕ) → is_passed_over line ≡ false → IsUtf8 (word_of line)
unfolding is_passed_over
word_is_utf8 line kept = let low : has_high_byte (word_of line) ≡ false = grind (arith, nat_tests) in low_is_utf8 (word_of line) low

-- reading such a word as text gives it
pub word_by : {E : Type 0} (bytes : List ℕ) (passed : Bool) (r : Result (Bor (List ℕ)) E) (Other : E → Type 0) → passed ≡ false → IsUtf8 bytes → MatchResult r (λ s. (s.now ≡ bytes) × IsUtf8 bytes) (λ e. ¬ (IsUtf8 bytes) × Other e) → MatchOption (result_ok r) (passed ≡ true) (λ s. (passed ≡ false) × (s.now ≡ bytes))
word_by bytes passed (Ok s) Other kept text read = (kept, read.0)
word_by bytes passed (Err e) Other kept text read = absurd (read.0 text)

-- a word that is no `!` and a rest is no exception
pub no_mark : (word : List ℕ) → ((rest : List ℕ) → word ≢ 33 ∷ rest) → is_exception word ≡ false
no_mark [] none = refl
no_mark (b ∷ word) none = let h = none word in grind (arith, nat_tests)

-- A text is parted at its first mark, which is found by its place.
use Rattle.std.proofs.Common.{◌≡◌, ◌∙◌, ◌+◌, ◌-◌, ◌<◌, ◌∷◌, ◌==◌, [], Bool, List, ap, arith, drop, false, length, refl, suc, sym, take, true, zero, ℕ}
use Rattle.std.proofs.Math.Seq.{take-length}
use Rattle.std.proofs.lemmas.List.{length-drop}
use Rattle.memchr.specs.Find.{Nowhere, Passes, is_byte}
use Rattle.mime_kind.specs.Texts.{after, before}

is_false : (test : Bool) → ¬ (test ≡ true) → test ≡ false
is_false true is = absurd (is refl)
is_false false is = refl

-- what stands before the first mark
pub before_first : (mark : ℕ) (text : List ℕ) (i : ℕ) → i < length text → Nowhere (Passes (is_byte mark) text) 0 i → Passes (is_byte mark) text i → take i text ≡ before mark text
before_first mark [] i inside none is = absurd (omega arith)
before_first mark (b ∷ text) zero inside none is = rw is refl
before_first mark (b ∷ text) (suc i) inside none is =
    let other : (b == mark) ≡ false = is_false (b == mark) (none 0 (omega arith) (omega arith)) in
    rw other (ap (λ t. b ∷ t) (before_first mark text i (omega arith) (λ k low high. none (suc k) (omega arith) (omega arith)) is))

-- and what stands behind it
pub after_first : (mark : ℕ) (text : List ℕ) (i : ℕ) → i < length text → Nowhere (Passes (is_byte mark) text) 0 i → Passes (is_byte mark) text i → drop (suc i) text ≡ after mark text
after_first mark [] i inside none is = absurd (omega arith)
after_first mark (b ∷ text) zero inside none is = rw is refl
after_first mark (b ∷ text) (suc i) inside none is =
    let other : (b == mark) ≡ false = is_false (b == mark) (none 0 (omega arith) (omega arith)) in
    rw other (after_first mark text i (omega arith) (λ k low high. none (suc k) (omega arith) (omega arith)) is)

-- a text without a mark is all before it
pub before_none : (mark : ℕ) (text : List ℕ) → Nowhere (Passes (is_byte mark) text) 0 (length text) → text ≡ before mark text
before_none mark [] none = refl
before_none mark (b ∷ text) none =
    let other : (b == mark) ≡ false = is_false (b == mark) (none 0 (omega arith) (omega arith)) in
    rw other (ap (λ t. b ∷ t) (before_none mark text (λ k low high. none (suc k) (omega arith) (omega arith))))

-- and nothing stands behind it
pub after_none : (mark : ℕ) (text : List ℕ) → Nowhere (Passes (is_byte mark) text) 0 (length text) → [] ≡ after mark text
after_none mark [] none = refl
after_none mark (b ∷ text) none =
    let other : (b == mark) ≡ false = is_false (b == mark) (none 0 (omega arith) (omega arith)) in
    rw other (after_none mark text (λ k low high. none (suc k) (omega arith) (omega arith)))

-- what stands behind a place, as it is taken
pub rest_at : (text : List ℕ) (i : ℕ) → take (length text - (i + 1)) (drop (i + 1) text) ≡ drop (suc i) text
rest_at text i =
    let step : i + 1 ≡ suc i = omega arith in
    let count : length text - (i + 1) ≡ length (drop (i + 1) text) = sym (length-drop (i + 1) text) in
    ap (λ m. take m (drop (i + 1) text)) count ∙ take-length (drop (i + 1) text) ∙ ap (λ m. drop m text) step

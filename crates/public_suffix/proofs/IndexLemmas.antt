-- What the sets of an index tell of a list of rules.
use Rattle.std.proofs.Common.{◌≡◌, ℕ, Bool, true, false, cond, ◌||◌, ◌&&◌, List, sym, ap, ◌∙◌, refl}
use Rattle.std.specs.Prelude.{bytes_eq}
use Rattle.std.proofs.lemmas.Slice.Eq.{bytes_eq-Decides}

pub and_left : (a b : Bool) → (a && b) ≡ true → a ≡ true
and_left true b e = refl
and_left false b e = absurd (cc)

pub and_right : (a b : Bool) → (a && b) ≡ true → b ≡ true
and_right true b e = e
and_right false b e = absurd (cc)

-- two tests that imply each other are equal
pub same_test : (a b : Bool) → (a ≡ true → b ≡ true) → (b ≡ true → a ≡ true) → a ≡ b
same_test true b to from = sym (to refl)
same_test false true to from = from refl
same_test false false to from = refl

pub equal_bytes : (a b : List ℕ) → bytes_eq a b ≡ true → a ≡ b
equal_bytes a b same = (bytes_eq-Decides a b).0 same

pub bytes_equal : (a b : List ℕ) → a ≡ b → bytes_eq a b ≡ true
bytes_equal a b same = (bytes_eq-Decides a b).1 same

cond_or : (a b x : Bool) → a ≡ b → cond a true x ≡ (b || x)
cond_or true b x same = ap (λ t. t || x) same
cond_or false b x same = ap (λ t. t || x) same

-- a set with one text more has what equals that text
pub or_equal : (asked text added : List ℕ) (before : Bool) → text ≡ added → cond (bytes_eq text asked) true before ≡ (bytes_eq asked added || before)
or_equal asked text added before same =
    cond_or (bytes_eq text asked) (bytes_eq asked added) before (same_test (bytes_eq text asked) (bytes_eq asked added)
    (λ is. bytes_equal asked added (sym (equal_bytes text asked is) ∙ same))
    (λ is. bytes_equal text asked (same ∙ sym (equal_bytes asked added is))))

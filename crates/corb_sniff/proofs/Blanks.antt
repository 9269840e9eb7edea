-- The bound on white bytes and comments never bites, and so one of them can be taken off a list.
use Rattle.std.proofs.Common.{◌≡◌, ℕ, zero, suc, ◌<◌, ◌≤◌, Bool, true, false, ◌||◌, cond, Option, Some, None, List, [], ◌∷◌, length, drop, codes, refl, sym, ap, arith}
use Rattle.std.specs.Option.{option_map_or}
use Rattle.std.proofs.lemmas.List.{length-drop}
use Rattle.corb_sniff.specs.Fronts.{is_white, begins}
use Rattle.corb_sniff.specs.HtmlGrammar.{after_comment_end, after_blank, holds_within, holds_behind_blanks}

or-false : (x : Bool) → (x || false) ≡ x
or-false true = refl
or-false false = refl

-- what is left, if anything, has fewer than n bytes
unfoldable pub IsShort : ℕ → Option (List ℕ) → Type 0
IsShort n None = Unit {0}
IsShort n (Some rest) = length rest < n

IsShort-cond : (n : ℕ) (b : Bool) (x y : Option (List ℕ)) → IsShort n x → IsShort n y → IsShort n (cond b x y)
unfolding IsShort
IsShort-cond n true x y h k = h
IsShort-cond n false x y h k = k

IsShort-more : (m n : ℕ) (o : Option (List ℕ)) → m ≤ n → IsShort m o → IsShort n o
unfolding IsShort
IsShort-more m n None le h = tt
IsShort-more m n (Some rest) le h = omega arith

IsShort-after_comment_end : (list : List ℕ) → IsShort (length list) (after_comment_end list)
unfolding IsShort
IsShort-after_comment_end [] = tt
IsShort-after_comment_end (b ∷ list) =
    IsShort-cond (suc (length list)) _ (Some (drop 2 list)) (after_comment_end list) (omega (arith, length-drop 2 list))
    (IsShort-more (length list) (suc (length list)) (after_comment_end list) (omega arith) (IsShort-after_comment_end list))

pub IsShort-after_blank : (list : List ℕ) → IsShort (length list) (after_blank list)
unfolding IsShort
IsShort-after_blank [] = tt
IsShort-after_blank (b ∷ list) =
    IsShort-cond (suc (length list)) (is_white b) (Some list) _ (omega arith)
    (IsShort-cond (suc (length list)) (begins (codes "<!--") (b ∷ list)) (after_comment_end (drop 3 list)) None
    (IsShort-more (length (drop 3 list)) (suc (length list)) _ (omega (arith, length-drop 3 list)) (IsShort-after_comment_end (drop 3 list))) tt)

-- tests that agree on shorter lists agree on what is left
same_or : (f g : List ℕ → Bool) (o : Option (List ℕ)) (n : ℕ) → IsShort n o → ((rest : List ℕ) → length rest < n → f rest ≡ g rest) → option_map_or f o false ≡ option_map_or g o false
unfolding IsShort
same_or f g None n h same = refl
same_or f g (Some rest) n h same = same rest h

-- no bound from the list's length on makes a difference
holds_within-bound : (test : List ℕ → Bool) (n m : ℕ) (list : List ℕ) → length list ≤ n → length list ≤ m → holds_within test n list ≡ holds_within test m list
unfolding holds_within
holds_within-bound test zero zero list h k = refl
holds_within-bound test zero (suc m) [] h k = sym (or-false (test []))
holds_within-bound test zero (suc m) (b ∷ list) h k = absurd (omega arith)
holds_within-bound test (suc n) zero [] h k = or-false (test [])
holds_within-bound test (suc n) zero (b ∷ list) h k = absurd (omega arith)
holds_within-bound test (suc n) (suc m) list h k =
    ap (λ x. test list || x)
    (same_or (holds_within test n) (holds_within test m) (after_blank list) (length list) (IsShort-after_blank list)
    (λ rest less. holds_within-bound test n m rest (omega arith) (omega arith)))

-- the test holds in front, or behind one white byte or comment
pub blanks-unfold : (test : List ℕ → Bool) (list : List ℕ) → holds_behind_blanks test list ≡ (test list || option_map_or (holds_behind_blanks test) (after_blank list) false)
unfolding holds_within holds_behind_blanks
blanks-unfold test [] = sym (or-false (test []))
blanks-unfold test (b ∷ list) =
    ap (λ x. test (b ∷ list) || x)
    (same_or (holds_within test (length list)) (holds_behind_blanks test) (after_blank (b ∷ list)) (suc (length list)) (IsShort-after_blank (b ∷ list))
    (λ rest less. holds_within-bound test (length list) (length rest) rest (omega arith) (omega arith)))

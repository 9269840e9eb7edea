-- Whether some number below a count passes a test, one number more.
use Rattle.std.proofs.Common.{◌≡◌, ◌∙◌, ◌+◌, ◌<◌, ℕ, suc, zero, Bool, true, false, ◌||◌, refl, ap, arith, subst, sym, ⊎_elim}
use Rattle.std.specs.List.{list_any, range_with_len}
use Rattle.std.proofs.lemmas.Bool.{cases_eq}
use Rattle.history_rules.proofs.Growth.{any_push}
use Rattle.plain_facts.proofs.Counts.{range_more}

any_below : (p : ℕ → Bool) (n : ℕ) → list_any p (range_with_len 0 (n + 1)) ≡ (list_any p (range_with_len 0 n) || p n)
any_below p n = ap (list_any p) (range_more n) ∙ any_push p (range_with_len 0 n) n

-- none so far, and not this one
pub none_more : (p : ℕ → Bool) (n : ℕ) → list_any p (range_with_len 0 n) ≡ false → p n ≡ false → list_any p (range_with_len 0 (n + 1)) ≡ false
none_more p n none not = any_below p n ∙ ap (λ b. b || p n) none ∙ not

or_true : (b : Bool) → (b || true) ≡ true
or_true true = refl
or_true false = refl

-- one of them is enough
pub some_below : (p : ℕ → Bool) (k n : ℕ) → k < n → p k ≡ true → list_any p (range_with_len 0 n) ≡ true
some_below p k zero below passes = absurd (omega arith)
some_below p k (suc n) below passes =
    let more : suc n ≡ n + 1 = omega arith in
    subst (λ (m : ℕ). list_any p (range_with_len 0 m) ≡ true) (sym more) (any_below p n ∙ ⊎_elim
    (λ same. ap (λ b. list_any p (range_with_len 0 n) || b) (subst (λ m. p m ≡ true) same passes) ∙ or_true (list_any p (range_with_len 0 n)))
    (λ other. let less : k < n = omega arith in ap (λ b. b || p n) (some_below p k n less passes))
    (cases_eq k n))

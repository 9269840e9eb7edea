-- How the standings change as calls are counted.
use Rattle.std.proofs.Common.{◌≡◌, ◌≢◌, ℕ, zero, suc, ◌+◌, ◌/◌, ◌%◌, [], ◌∷◌, ◌++◌, length, Some, refl, sym, ap, ◌∙◌, cond, eqb, ne_eqb, arith, length-append, add-one}
use Rattle.policy_table.specs.declared.standing.Standing.TheVariants.{Absent, Locked}
use Rattle.policy_table.specs.Changes.{Changes}
use Rattle.policy_table_stress.specs.Tallies.{calls_before, standing_after}

pub length_of_calls : (n : ℕ) → length (calls_before n) ≡ n
length_of_calls zero = refl
length_of_calls (suc n) = omega (arith, length-append (calls_before n) (n ∷ []), length_of_calls n)

pub one_more_call : (n : ℕ) → calls_before (n + 1) ≡ calls_before n ++ n ∷ []
one_more_call n = ap calls_before (add-one n)

half_of_calls : (n : ℕ) → length (calls_before n) / 2 ≡ n / 2
half_of_calls n = ap (λ (k : ℕ). k / 2) (length_of_calls n)

-- after an even number of calls one more changes no standing
pub even_changes_none : (n : ℕ) → n % 2 ≡ 0 → (p : ℕ) → standing_after (calls_before (n + 1)) p ≡ standing_after (calls_before n) p
even_changes_none n even p = let same : (n + 1) / 2 ≡ n / 2 = omega arith in
    ap (λ (k : ℕ). cond (eqb p 0) (Locked k) Absent) (half_of_calls (n + 1) ∙ (same ∙ sym (half_of_calls n)))

-- after an odd number of calls one more locks process 0 to another site
pub odd_changes_one : (n : ℕ) → n % 2 ≢ 0 → Changes (standing_after (calls_before n)) (standing_after (calls_before (n + 1))) (Some (0, Locked ((n + 1) / 2)))
odd_changes_one n odd = (
  omega arith,
  ap Locked (half_of_calls (n + 1)),
  λ e. let same : length (calls_before n) / 2 ≡ (n + 1) / 2 = (cc) in absurd (omega (arith, half_of_calls n)),
  λ p ne. ap (λ b. cond b (Locked (length (calls_before (n + 1)) / 2)) Absent) (ne_eqb p 0 ne) ∙ sym (ap (λ b. cond b (Locked (length (calls_before n) / 2)) Absent) (ne_eqb p 0 ne)),
)

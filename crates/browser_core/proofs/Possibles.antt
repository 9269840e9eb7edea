-- Whether an outcome may be brought back.
use Rattle.std.proofs.Common.{◌∙◌, ap, arith, inl, inr, refl, subst, sym}
use Rattle.std.proofs.Math.Seq.{take-length}
use Rattle.std.specs.Prelude.{◌≡◌, ◌||◌, ◌<◌, ◌≤◌, ◌∷◌, [], Bool, IsTrue, List, None, Option, Some, false, is_some, length, option_and_then, suc, take, true, zero, ℕ}
use Rattle.std.specs.List.{list_any, range_with_len}
use Rattle.std.specs.Option.{option_map_or}
use Rattle.history_entry.specs.declared.entry.Entry.{Entry}
use Rattle.script_model.specs.ScriptData.{ScriptData}
use Rattle.service_rule.specs.Services.{ServiceRule}
use Rattle.history.proofs.Crashes.{some_below}
use Rattle.history_rules.proofs.Apart.{any_found, from_map_or, from_then, or_cases, or_left, or_right}
use Rattle.std.proofs.lemmas.Bool.{cases_lt}
use Rattle.history_rules.specs.Documents.{process_of}
use Rattle.history_rules.specs.Processes.{is_dead}
use Rattle.history_rules.specs.Requests.{request_document}
use Rattle.history_steps.specs.Run.{Legal}
use Rattle.browser_tasks.specs.Outcomes.{CanFollow, CannotFollow, IsHostDead, IsOutcome, IsVouched}
use Rattle.browser_tasks.specs.declared.outcome.Outcome.{Outcome}
use Rattle.browser_core.specs.Applying.{IsLast}
use Rattle.browser_core.specs.Hosts.{host_dead, was_host_dead}
use Rattle.browser_core.specs.Walking.{CouldFollow, IsLastWell, NoneFrom, TellsFollowing, TellsPossible}

-- one may follow now
pub possible_now : (s : ScriptData) (h : List Entry) (outcome : Outcome) → TellsFollowing s h outcome true → TellsPossible s h outcome true
possible_now s h outcome may rule legal = record {
  place = length h;
  within = omega arith;
  could = subst (λ g. CanFollow rule s g outcome) (sym (take-length h)) (may rule legal);
}

-- one could before, or none ever
pub possible_before : (s : ScriptData) (h : List Entry) (outcome : Outcome) (found : Option ℕ) → IsLastWell s h outcome found → TellsPossible s h outcome (is_some found)
possible_before s h outcome None none = λ rule legal could.
    (none.none rule legal could.place (omega arith) could.within).none could.could.entry could.could.is_of could.could.follows
possible_before s h outcome (Some place) last = λ rule legal.
    (let l = last rule legal in record { place = place; within = (let below = l.below in omega (arith, below)); could = l.could })

-- the process of a request's document is dead
host_from : (h : List Entry) (r : ℕ) → host_dead h r ≡ true → IsHostDead h r
unfolding host_dead
host_from h r dead =
    let a = from_map_or (is_dead h) (option_and_then (process_of h) (request_document h r)) dead in
    let b = from_then (process_of h) (request_document h r) a.0 a.1 in
    (b.0, a.0, b.1, b.2, a.2)

host_to : (h : List Entry) (r : ℕ) → IsHostDead h r → host_dead h r ≡ true
unfolding host_dead
host_to h r host =
    let found : option_and_then (process_of h) (request_document h r) ≡ Some host.1 = ap (option_and_then (process_of h)) host.2 ∙ host.3 in
    ap (λ o. option_map_or (is_dead h) o false) found ∙ host.4

-- it was dead after some of the entries
pub was_from : (h : List Entry) (r : ℕ) → was_host_dead h r ≡ true → (i : ℕ) × IsHostDead (take i h) r
unfolding was_host_dead
was_from h r was = elim (or_cases (list_any (λ i. host_dead (take i h) r) (range_with_len 0 (length h))) (host_dead h r) was) [
  | inl before ↦ (let f = any_found (λ i. host_dead (take i h) r) (range_with_len 0 (length h)) before in (f.item, host_from (take f.item h) r f.passes))
  | inr now ↦ (length h, subst (λ g. IsHostDead g r) (sym (take-length h)) (host_from h r now))
]

pub was_below : (h : List Entry) (r i : ℕ) → i < length h → host_dead (take i h) r ≡ true → was_host_dead h r ≡ true
unfolding was_host_dead
was_below h r i below dead = or_left _ _ (some_below (λ j. host_dead (take j h) r) i (length h) below dead)

beyond : {X : Type 0} (h : List X) (i : ℕ) → length h ≤ i → take i h ≡ h
beyond [] zero le = refl
beyond [] (suc i) le = refl
beyond (x ∷ h) zero le = absurd (omega (arith, le))
beyond (x ∷ h) (suc i) le = ap (λ xs. x ∷ xs) (beyond h i (omega (arith, le)))

pub was_to : (h : List Entry) (r i : ℕ) → IsHostDead (take i h) r → was_host_dead h r ≡ true
unfolding was_host_dead
was_to h r i host = elim (cases_lt i (length h)) [
  | inl below ↦ or_left _ _ (some_below (λ j. host_dead (take j h) r) i (length h) (omega (arith, below)) (host_to (take i h) r host))
  | inr after ↦ or_right _ _ (host_to h r (subst (λ g. IsHostDead g r) (beyond h i (omega (arith, after))) host))
]

pub gone : (h : List Entry) (r : ℕ) (was : Bool) → was ≡ was_host_dead h r
    → (IsTrue was → (i : ℕ) × IsHostDead (take i h) r) × (((i : ℕ) × IsHostDead (take i h) r) → IsTrue was)
gone h r was is = ((λ holds. was_from h r (sym is ∙ holds)), (λ dead. is ∙ was_to h r dead.0 dead.1))

-- an outcome that may be brought back could follow, and is vouched for
pub possible_from : (rule : ServiceRule) (s : ScriptData) (h : List Entry) (outcome : Outcome) → IsVouched h outcome → CouldFollow rule s h outcome → IsOutcome rule s h outcome
possible_from rule s h outcome vouched could = record { place = could.place; within = could.within; could = could.could; vouched = vouched }

pub possible_to : (rule : ServiceRule) (s : ScriptData) (h : List Entry) (outcome : Outcome) → IsOutcome rule s h outcome → CouldFollow rule s h outcome
possible_to rule s h outcome is = record { place = is.place; within = is.within; could = is.could }

-- it is vouched for, and whether it could follow decides
pub decided : (rule : ServiceRule) (s : ScriptData) (h : List Entry) (outcome : Outcome) → Legal rule s h → IsVouched h outcome → (could : Bool) → TellsPossible s h outcome could
    → (IsTrue could → IsOutcome rule s h outcome) × (IsOutcome rule s h outcome → IsTrue could)
decided rule s h outcome legal vouched true tells = ((λ holds. possible_from rule s h outcome vouched (tells rule legal)), (λ is. refl))
decided rule s h outcome legal vouched false tells = ((λ holds. absurd (cc)), (λ is. absurd (tells rule legal (possible_to rule s h outcome is))))

-- it is not vouched for
pub not_vouched : (rule : ServiceRule) (s : ScriptData) (h : List Entry) (outcome : Outcome) (vouched : Bool) → (IsVouched h outcome → IsTrue vouched) → vouched ≡ false
    → (IsTrue false → IsOutcome rule s h outcome) × (IsOutcome rule s h outcome → IsTrue false)
not_vouched rule s h outcome true to not = absurd (cc)
not_vouched rule s h outcome false to not = ((λ holds. absurd (cc)), (λ is. to is.vouched))

-- Each entry changes the standing of at most one process.
use Rattle.std.proofs.Common.{ap, inl, inr, refl, sym, ◌∙◌}
use Rattle.std.specs.Prelude.{◌≡◌, ◌⊎◌, ◌&&◌, ◌==◌, ◌++◌, ◌∷◌, [], if◌then◌else◌, Bool, List, None, Option, Some, cond, false, is_some, not, ℕ}
use Rattle.std.specs.List.{list_any}
use Rattle.std.proofs.lemmas.Bool.{cases_eq, ne_eqb}
use Rattle.page_origin.specs.declared.site.Site.{Site}
use Rattle.history_entry.specs.declared.entry.Entry.{Entry}
use Rattle.history_entry.specs.declared.entry.Entry.TheVariants.{Commit, Crash, Exit, Order, Said, Warm}
use Rattle.history_rules.specs.Orders.{lock_in}
use Rattle.script_model.specs.ScriptData.{ScriptData}
use Rattle.history_rules.proofs.Growth.{any_still, match_still}
use Rattle.history_rules.specs.Entries.{ends_process, kills, last_match}
use Rattle.history_rules.specs.Processes.{Dead, Stage, Warm, is_dead, stage_of_lock, standing, warms, is_warm, is_locked, lock_of}
use Rattle.service_rule.specs.Services.{ServiceRule}
use Rattle.history_steps.specs.Objects.{ChangesOne}

-- a standing by what it is made of: a death, a start and the last order
abbrev pub standing_by : Bool → Bool → Option Site → Stage
standing_by dead warmed last =
    if dead then Dead
    else if warmed && not dead && not (is_some (if dead then None else last)) then Warm
    else stage_of_lock (if dead then None else last)

pub standing_push : (h : List Entry) (e : Entry) (p : ℕ) → ends_process p e ≡ false → warms p e ≡ false → lock_in p e ≡ None → standing (h ++ e ∷ []) p ≡ standing h p
unfolding is_dead standing is_warm is_locked lock_of
standing_push h e p no_end no_start no_lock =
    ap (λ b. standing_by b (list_any (warms p) (h ++ e ∷ [])) (last_match (lock_in p) (h ++ e ∷ []))) (any_still (ends_process p) h e no_end)
    ∙ ap (λ b. standing_by (is_dead h p) b (last_match (lock_in p) (h ++ e ∷ []))) (any_still (warms p) h e no_start)
    ∙ ap (λ o. standing_by (is_dead h p) (list_any (warms p) h) o) (match_still (lock_in p) h e no_lock)

-- the process whose standing an entry may change
abbrev pub process_about : Entry → Option ℕ
process_about (Warm p) = Some p
process_about (Order n p site origin url) = Some p
process_about (Said p d k message reply) = Some p
process_about (Crash p) = Some p
process_about (Commit p n origin url reply) = Some p
process_about (Exit p) = Some p
process_about _ = None

other : (q p : ℕ) → (Some q ≡ Some p → ⊥) → (q == p) ≡ false
other q p none = ne_eqb q p (λ same. none (ap (λ x. Some x) same))

pub about_another : (e : Entry) (p : ℕ) → (process_about e ≡ Some p → ⊥) → (ends_process p e ≡ false) × (warms p e ≡ false) × (lock_in p e ≡ None)
about_another (Warm q) p none = (refl, other q p none, refl)
about_another (Order n q site origin url) p none = (refl, refl, ap (λ b. cond {A = Option Site} b (Some site) None) (other q p none))
about_another (Said q d k message reply) p none = (ap (λ b. b && kills reply) (other q p none), refl, refl)
about_another (Crash q) p none = (other q p none, refl, refl)
about_another (Commit q n origin url reply) p none = (ap (λ b. b && kills reply) (other q p none), refl, refl)
about_another (Exit q) p none = (other q p none, refl, refl)
about_another _ p none = (refl, refl, refl)

is_about : (o : Option ℕ) (p : ℕ) → (o ≡ Some p) ⊎ (o ≡ Some p → ⊥)
is_about None p = inr (λ same. (cc))
is_about (Some q) p = decide (cases_eq q p)
  where
    decide : (q ≡ p) ⊎ (q ≡ p → ⊥) → (Some q ≡ Some p) ⊎ (Some q ≡ Some p → ⊥)
    decide (inl same) = inl (ap (λ x. Some x) same)
    decide (inr apart) = inr (λ same. apart (cc))

changed_about : (h : List Entry) (e : Entry) (p : ℕ) → (standing (h ++ e ∷ []) p ≡ standing h p → ⊥) → process_about e ≡ Some p
changed_about h e p changed = decide (is_about (process_about e) p)
  where
    decide : (process_about e ≡ Some p) ⊎ (process_about e ≡ Some p → ⊥) → process_about e ≡ Some p
    decide (inl same) = same
    decide (inr none) = absurd (let a = about_another e p none in changed (standing_push h e p a.0 a.1 a.2))

pub changes_one : (rule : ServiceRule) (s : ScriptData) → ChangesOne rule s
changes_one rule s h e p q legal one two =
    let a = changed_about h e p one in
    let b = changed_about h e q two in
    let both : Some p ≡ Some q = sym a ∙ b in
    cc

-- What the last entry of a history changes in the table.
use Rattle.std.proofs.Common.{ap, arith, inl, inr, refl, subst, sym, ◌∙◌}
use Rattle.std.specs.Prelude.{◌≡◌, ◌≢◌, ◌⊎◌, ◌&&◌, ◌<◌, ◌==◌, ◌+◌, ◌++◌, ◌∷◌, [], Bool, List, None, Option, Some, cond, false, length, slice_get, true, ℕ}
use Rattle.std.proofs.lemmas.Bool.{cases_eq, eq-eqb, ne_eqb}
use Rattle.page_origin.specs.declared.site.Site.{Site}
use Rattle.history_entry.specs.declared.entry.Entry.{Entry}
use Rattle.history_entry.specs.declared.entry.Entry.TheVariants.{Commit, Crash, Exit, Order, Said, Warm}
use Rattle.history_rules.proofs.Apart.{and_both, any_here, from_cond, some_same}
use Rattle.history_rules.specs.Entries.{ends_process, kills}
use Rattle.history_rules.specs.Orders.{lock_in}
use Rattle.history_rules.specs.Processes.{is_dead, started, started_by, warms}
use Rattle.history_laws.proofs.Bound.{started_few}
use Rattle.history_steps.proofs.Locks.{dead_started, started_above}
use Rattle.history_steps.proofs.Standings.{standing_push}
use Rattle.history_steps.specs.Run.{Legal}
use Rattle.policy_table.specs.declared.standing.Standing.{Standing}
use Rattle.process_standings.proofs.Numbers.{numbered_kept}
use Rattle.process_standings.specs.Changing.{LastChanges, process_about}
use Rattle.process_standings.specs.Standings.{numbered, table_standing}
use Rattle.script_model.specs.ScriptData.{ScriptData}
use Rattle.service_rule.specs.Services.{ServiceRule}

-- ---- an entry that is about another process

-- it neither ends, starts nor orders this one
record IsQuiet (e : Entry) (p : ℕ) : Type 0 where
  no_end : ends_process p e ≡ false
  no_start : warms p e ≡ false
  no_lock : lock_in p e ≡ None

other : (q p : ℕ) → (Some q ≡ Some p → ⊥) → (q == p) ≡ false
other q p none = ne_eqb q p (λ same. none (ap (λ x. Some x) same))

unkilled : (q p : ℕ) (b : Bool) → (cond {A = Option ℕ} b (Some q) None ≡ Some p → ⊥) → ((q == p) && b) ≡ false
unkilled q p true none = ap (λ c. c && true) (other q p none)
unkilled q p false none = and_false (q == p)
  where
    and_false : (c : Bool) → (c && false) ≡ false
    and_false true = refl
    and_false false = refl

quiet : (e : Entry) (p : ℕ) → (process_about e ≡ Some p → ⊥) → IsQuiet e p
quiet (Warm q) p none = record { no_end = refl; no_start = other q p none; no_lock = refl }
quiet (Order n q site origin url) p none =
    record { no_end = refl; no_start = refl; no_lock = ap (λ b. cond {A = Option Site} b (Some site) None) (other q p none) }
quiet (Said q d k message reply) p none = record { no_end = unkilled q p (kills reply) none; no_start = refl; no_lock = refl }
quiet (Crash q) p none = record { no_end = other q p none; no_start = refl; no_lock = refl }
quiet (Commit q n origin url reply) p none = record { no_end = unkilled q p (kills reply) none; no_start = refl; no_lock = refl }
quiet (Exit q) p none = record { no_end = other q p none; no_start = refl; no_lock = refl }
quiet _ p none = record { no_end = refl; no_start = refl; no_lock = refl }

-- it leaves the standing of this one
standing_stays : (h : List Entry) (e : Entry) (p : ℕ) → (process_about e ≡ Some p → ⊥) → table_standing (h ++ e ∷ []) p ≡ table_standing h p
unfolding table_standing
standing_stays h e p none =
    let q = quiet e p none in
    ap (numbered (h ++ e ∷ [])) (standing_push h e p q.no_end q.no_start q.no_lock) ∙ numbered_kept h (e ∷ []) p

-- ---- the process that it is about has a row

get_last : {X : Type 0} (h : List X) (e : X) → slice_get (h ++ e ∷ []) (length h) ≡ Some e
get_last [] e = refl
get_last (x ∷ h) e = get_last h e

started_last : (h : List Entry) (e : Entry) (p : ℕ) → started_by e ≡ Some (p + 1) → p < started (h ++ e ∷ [])
started_last h e p is = omega (arith, started_above (h ++ e ∷ []) (length h) e (p + 1) (get_last h e) is)

module _ (rule : ServiceRule) (s : ScriptData) (h : List Entry) (e : Entry) (legal : Legal rule s (h ++ e ∷ [])) where
  ended_last : (p : ℕ) → ends_process p e ≡ true → p < started (h ++ e ∷ [])
  unfolding is_dead
  ended_last p ends = dead_started rule s (h ++ e ∷ []) legal p (any_here (ends_process p) (h ++ e ∷ []) (length h) e (get_last h e) ends)

killed_form : (q p : ℕ) (b : Bool) → cond {A = Option ℕ} b (Some q) None ≡ Some p → ((q == p) && b) ≡ true
killed_form q p b e =
    let a = from_cond b (Some q) p e in
    let same : q ≡ p = some_same a.1 in
    and_both (q == p) b (eq-eqb q p same) a.0

about_started : (rule : ServiceRule) (s : ScriptData) (h : List Entry) (e : Entry) (p : ℕ) → Legal rule s (h ++ e ∷ []) → process_about e ≡ Some p → p < started (h ++ e ∷ [])
about_started rule s h (Warm q) p legal is = started_last h (Warm q) p (ap (λ n. Some (n + 1)) (some_same is))
about_started rule s h (Order n q site origin url) p legal is = started_last h (Order n q site origin url) p (ap (λ m. Some (m + 1)) (some_same is))
about_started rule s h (Said q d k message reply) p legal is =
    ended_last rule s h (Said q d k message reply) legal p (killed_form q p (kills reply) is)
about_started rule s h (Crash q) p legal is = ended_last rule s h (Crash q) legal p (eq-eqb q p (some_same is))
about_started rule s h (Commit q n origin url reply) p legal is =
    ended_last rule s h (Commit q n origin url reply) legal p (killed_form q p (kills reply) is)
about_started rule s h (Exit q) p legal is = ended_last rule s h (Exit q) legal p (eq-eqb q p (some_same is))
about_started rule s h _ p legal is = absurd (cc)

about_few : (rule : ServiceRule) (s : ScriptData) (h : List Entry) (e : Entry) (p : ℕ) → Legal rule s (h ++ e ∷ []) → process_about e ≡ Some p → p < 1024
about_few rule s h e p legal is = omega (arith, about_started rule s h e p legal is, started_few rule s (h ++ e ∷ []) legal)

-- ---- the change

-- lists that end in one element each are equal by parts
push_same : {X : Type 0} (a b : List X) (x y : X) → a ++ x ∷ [] ≡ b ++ y ∷ [] → a ≡ b
push_same [] [] x y e = refl
push_same [] (z ∷ []) x y e = absurd (cc)
push_same [] (z ∷ (w ∷ b)) x y e = absurd (cc)
push_same (z ∷ []) [] x y e = absurd (cc)
push_same (z ∷ (w ∷ a)) [] x y e = absurd (cc)
push_same (z ∷ a) (w ∷ b) x y e =
    let heads : z ≡ w = cc in
    let tails : a ++ x ∷ [] ≡ b ++ y ∷ [] = cc in
    ap (λ v. v ∷ a) heads ∙ ap (λ vs. w ∷ vs) (push_same a b x y tails)

-- an empty history has no last entry
pub changes_empty : (h : List Entry) → length h ≡ 0 → LastChanges h None
changes_empty h none before e is = absurd (let more : length h ≡ length before + 1 = ap length is ∙ length_more before e in omega arith)
  where
    length_more : (g : List Entry) (x : Entry) → length (g ++ x ∷ []) ≡ length g + 1
    length_more [] x = refl
    length_more (y ∷ g) x = let more = length_more g x in omega arith

module _ (h before : List Entry) (e : Entry) (ends : h ≡ before ++ e ∷ []) where
  -- it is the one history before the last entry
  the_front : (other : List Entry) (x : Entry) → h ≡ other ++ x ∷ [] → before ≡ other
  the_front other x is = push_same before other e x (sym ends ∙ is)

  stays : (p : ℕ) → (process_about e ≡ Some p → ⊥) → table_standing h p ≡ table_standing before p
  stays p none = ap (λ g. table_standing g p) ends ∙ standing_stays before e p none

  stays_but : (p q : ℕ) → process_about e ≡ Some p → (q ≡ p → ⊥) → table_standing h q ≡ table_standing before q
  stays_but p q about apart = stays q (λ is. apart (some_same (sym is ∙ about)))

  -- the entry is about no process
  pub changes_none : process_about e ≡ None → LastChanges h None
  changes_none none other x is =
      λ p. stays p (λ about. (cc)) ∙ ap (λ g. table_standing g p) (the_front other x is)

  -- the process that it is about stands as before
  pub changes_nothing : (p : ℕ) → process_about e ≡ Some p → table_standing h p ≡ table_standing before p → LastChanges h None
  changes_nothing p about same other x is = λ q. by_process q (cases_eq q p) ∙ ap (λ g. table_standing g q) (the_front other x is)
    where
      by_process : (q : ℕ) → (q ≡ p) ⊎ (q ≡ p → ⊥) → table_standing h q ≡ table_standing before q
      by_process q (inl it) = ap (table_standing h) it ∙ same ∙ ap (table_standing before) (sym it)
      by_process q (inr apart) = stays_but p q about apart

  -- the process that it is about stands otherwise
  pub changes_one : (rule : ServiceRule) (s : ScriptData) → Legal rule s h → (p : ℕ) (now : Standing) → process_about e ≡ Some p → now ≡ table_standing h p
      → table_standing before p ≢ now → LastChanges h (Some (p, now))
  changes_one rule s legal p now about is_now apart other x is =
      let front : before ≡ other = the_front other x is in (
        about_few rule s before e p (subst (λ g. Legal rule s g) ends legal) about,
        sym is_now,
        λ same. apart (ap (λ g. table_standing g p) front ∙ same),
        λ q not_it. stays_but p q about not_it ∙ ap (λ g. table_standing g q) front,
      )

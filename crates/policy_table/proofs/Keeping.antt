-- Each kind of step keeps the rule of the table, and tells what it is said to tell.
use Rattle.std.proofs.Common.{◌≡◌, ◌≢◌, ◌⊎◌, ℕ, zero, suc, ◌+◌, ◌-◌, ◌<◌, ◌≤◌, eqb, List, [], ◌∷◌, ◌++◌, length, get_or, set, Option, Some, None, sym, refl, ap, ◌∙◌, subst, inl, inr, ⊎_elim, arith, length-set, length-append, get_or-set_other, get_or-set_same}
use lib.Seq.{set-get_or}
use mathlib.Core.Logic.{dite}
use mathlib.Core.Option as maybe
use native.Mathlib.Decide.{ℕ_discrete}
use lib.ListN.{get_elem?}
use prog.Atomic.{either}
use Rattle.atomic_table.specs.Table.{State, Me, step, Act, keeps, takes, gives, Valid, carried_after, stepped, Allows, Splits, Joins, opening, Final, Seen}
use Rattle.atomic_table.proofs.Lists.{at_set, set_again, set_here, set_else, at_longer, at_snoc, exchanged}
use Rattle.policy_table.specs.declared.view.View.{View}
use Rattle.policy_table.specs.declared.standing.Standing.{Standing}
use Rattle.policy_table.specs.Histories.{StartsWith, AddsOne, ArePlaces}
use Rattle.policy_table.specs.TableRule.{Shows, weight_of, turn_of, IsTrueOf, IsHome, IsKept}
use Rattle.policy_table.specs.Views.{opener, less_one, one_unit, joined, spent, seeing, adding, Follows}
use Rattle.policy_table.specs.Steps.{HasCalled, taken, opened, entered, released, row_read}
use Rattle.policy_table.proofs.Lists.{total-append, total-set, total_of_zeros, term_below_total, two_terms_below_total, place_below_length, places_of_more, no_places, places_and_end, starts_with_itself, starts_with_start, start_not_longer, whole_start, longer_begins}

-- what lies in the slot that was taken last
abbrev first_of : {O : Type 0} → List (ℕ × Option O) → Option O
first_of [] = None
first_of (x ∷ xs) = x.1

module _ {E : Type 0} where
  -- the view at id is w, and all others are as they were
  set_views : (P : View E → Type 0) (vs : List (View E)) (id : ℕ) (w : View E) → P w → ((j : ℕ) (u : View E) → j ≢ id → get_elem? vs j ≡ maybe.some u → P u)
      → (j : ℕ) (u : View E) → get_elem? (set vs id w) j ≡ maybe.some u → P u
  set_views P vs id w mine others j u e = ⊎_elim (λ (t : (j ≡ id) × (w ≡ u)). subst P t.1 mine) (λ (t : (j ≢ id) × (get_elem? vs j ≡ maybe.some u)). others j u t.0 t.1) (at_set vs id j w u e)

  -- a view that hasn't the turn is still true where the history grew and the turn word changed
  still_true : (log next : List E) (turn now : ℕ) (u : View E) → StartsWith next log → IsTrueOf log turn u → u.turn ≡ 0 → IsTrueOf next now u
  still_true log next turn now u more f z = record { seen = starts_with_start u.seen log next f.seen more; told = starts_with_start u.told log next f.told more; mine = f.mine; holder = λ h. absurd (omega arith) }

  -- what follows sees the whole history, and has the turn and the weight as before
  pub Follows-parts : (v w : View E) (log : List E) → Follows v log w → (log ≡ w.seen) × (w.turn ≡ v.turn) × (w.weight ≡ v.weight)
  Follows-parts v w log (inl t) = subst (λ (x : View E). (log ≡ x.seen) × (x.turn ≡ v.turn) × (x.weight ≡ v.weight)) (sym t.1) (t.0, refl, refl)
  Follows-parts v w log (inr t) = subst (λ (x : View E). (log ≡ x.seen) × (x.turn ≡ v.turn) × (x.weight ≡ v.weight)) (sym t.1) (refl, refl, refl)

  module _ {O : Type 0} (history : O → List E) (standing : List E → ℕ → Standing) where
    abbrev St : Type 0
    St = State (Option O) (View E)

    abbrev M : Type 0
    M = Me (Option O) (View E)

    abbrev Rule : St → Type 0
    Rule = IsKept history standing

    -- beside the holder no view says that it has the turn
    holder_alone : (s : St) (k : Rule s) (id : ℕ) (v : View E) → get_elem? s.views id ≡ maybe.some v → 0 < v.turn → (j : ℕ) (u : View E) → j ≢ id → get_elem? s.views j ≡ maybe.some u → u.turn ≡ 0
    holder_alone s k id v at has j u ne there = let both = two_terms_below_total turn_of s.views id j v u ne at there in let mine = ((k.views id v at).holder has).0 in omega (arith, k.turns)

    -- while the turn is free no view says so
    no_holder : (s : St) (k : Rule s) → get_or s.words 0 0 ≡ 0 → (j : ℕ) (u : View E) → get_elem? s.views j ≡ maybe.some u → u.turn ≡ 0
    no_holder s k free j u there = let one = term_below_total turn_of s.views j u there in omega (arith, k.turns)

    -- a pass of the whole weight has seen the whole history
    whole_weight_saw_all : (s : St) (k : Rule s) (id : ℕ) (v : View E) → get_elem? s.views id ≡ maybe.some v → v.weight ≡ 16 → v.seen ≡ k.history
    whole_weight_saw_all s k id v at full = let j = k.all_seen.0 in let u = k.all_seen.1 in
        dite (ℕ_discrete j id)
        (λ e. let same : v ≡ u = maybe.some-injective v u (sym at ∙ (ap (get_elem? s.views) (sym e) ∙ k.all_seen.2)) in ap (λ (x : View E). x.seen) same ∙ k.all_seen.4)
        (λ ne. let both = two_terms_below_total weight_of s.views id j v u ne at k.all_seen.2 in let some_weight = k.all_seen.3 in absurd (omega (arith, k.weights)))

    -- the view at id becomes w, which sees all of the next history, of which the others know a beginning
    next_state_kept : (s : St) (k : Rule s) (id : ℕ) (v w : View E) (next : List E) (words : List ℕ) (homes : List (maybe.Option (Option O)))
        → get_elem? s.views id ≡ maybe.some v → w.seen ≡ next → w.told ≡ v.told → w.weight ≡ v.weight → 0 < v.weight → ArePlaces w.mine (length next)
        → (0 < w.turn → w.turn ≡ get_or words 0 0) → get_or words 0 0 + v.turn ≡ get_or s.words 0 0 + w.turn
        → StartsWith next k.history → ((j : ℕ) (u : View E) → j ≢ id → get_elem? s.views j ≡ maybe.some u → u.turn ≡ 0)
        → length words ≡ length s.words → length homes ≡ length s.homes
        → (get_or words 0 0 ≡ 0 → IsHome history standing next homes) → (get_or words 0 0 ≡ 2 → get_elem? homes 0 ≡ maybe.some (maybe.some None))
        → ((p : ℕ) → p < 1024 → Shows (get_or words (p + 1) 0) (standing next p))
        → Rule record { words = words; homes = homes; views = set s.views id w }
    next_state_kept s k id v w next words homes at sees tells weighs some_weight places turn balance more others long deep free fresh rows = record {
      history = next;
      words = long ∙ k.words;
      slots = deep ∙ k.slots;
      home = free;
      views = set_views (IsTrueOf next (get_or words 0 0)) s.views id w
          record { seen = subst (λ (l : List E). StartsWith next l) (sym sees) (starts_with_itself next); told = subst (λ (l : List E). StartsWith next l) (sym tells) (starts_with_start v.told k.history next (k.views id v at).told more); mine = subst (λ (l : List E). ArePlaces w.mine (length l)) (sym sees) places; holder = λ h. (turn h, sees, omega arith) }
          (λ j u ne there. still_true k.history next (get_or s.words 0 0) (get_or words 0 0) u more (k.views j u there) (others j u ne there));
      rows = rows;
      weights = omega (arith, total-set weight_of s.views id v w at, k.weights);
      all_seen = (id, w, set_here s.views id w (place_below_length s.views id v at), omega arith, sees);
      turns = omega (arith, total-set turn_of s.views id v w at, k.turns);
      opening = fresh;
    }

    -- the rows are as they were where only the turn word is written, at the same history
    rows_kept : (words : List ℕ) (x : ℕ) (log next : List E) → next ≡ log → ((p : ℕ) → p < 1024 → Shows (get_or words (p + 1) 0) (standing log p)) → (p : ℕ) → p < 1024 → Shows (get_or (set words 0 x) (p + 1) 0) (standing next p)
    rows_kept words x log next same rows p h = subst (λ (y : ℕ × List E). Shows y.0 (standing y.1 p)) (λ i. (sym (get_or-set_other words 0 (p + 1) x 0 (λ e. omega arith)) i, sym same i)) (rows p h)

    -- a step that changes nothing
    unmoved : (s : St) (k : Rule s) (i id : ℕ) (v : View E) (c : List (ℕ × Option O)) → get_elem? s.views id ≡ maybe.some v → Rule (stepped s i (get_or s.words i 0) id c v keeps)
    unmoved s k i id v c at = subst (λ (x : List ℕ × List (View E)). Rule record { words = x.0; homes = s.homes; views = x.1 }) (λ i'. (sym (set-get_or s.words i 0) i', sym (set_again s.views id v at) i')) k

    -- take
    pub take_keeps : (slots id : ℕ) (m : M) → 0 < m.0.weight → Allows Rule slots id m 0 (λ n. either (eqb n 0) 1 n) (taken history (step slots 0 0 1 maybe.none) m)
    take_keeps slots id m some_weight s k _ at _ = let v = m.0 in let long = k.words in
        exchanged (get_or s.words 0 0) 0 1 (λ x. (w : View E) × (a : Act (Option O)) × Valid s.homes m.1 a × Rule (stepped s 0 x id m.1 w a) × taken history (step slots 0 0 1 maybe.none) m (get_or s.words 0 0) (w, carried_after m.1 a))
        (λ hit. let home = k.home hit in let core = home.0 in let log = history core in let w = seeing v log 1 in let f = k.views id v at in
        let off : v.turn ≡ 0 = no_holder s k hit id v at in
        let sees : StartsWith log v.seen = subst (λ (l : List E). StartsWith l v.seen) (sym home.2) f.seen in
        let now : get_or (set s.words 0 1) 0 0 ≡ 1 = get_or-set_same s.words 0 1 0 (omega arith) in (
          w,
          takes 0 (Some core),
          home.1,
          next_state_kept s k id v w log (set s.words 0 1) (set s.homes 0 maybe.none) at refl refl refl some_weight (places_of_more v.mine (length v.seen) (length log) f.mine (start_not_longer v.seen log sees))
              (λ _. sym now) (omega arith) (subst (λ (l : List E). StartsWith l k.history) (sym home.2) (starts_with_itself k.history)) (λ j u ne there. no_holder s k hit j u there)
              (length-set s.words 0 1) (length-set s.homes 0 maybe.none) (λ e. absurd (omega arith)) (λ e. absurd (omega arith)) (rows_kept s.words 1 k.history log home.2 k.rows),
          ((λ _. (core, refl, (sees, λ full. home.2 ∙ sym (whole_weight_saw_all s k id v at full)))), λ miss. absurd (miss hit)),
        ))
        (λ miss. (v, keeps, tt, unmoved s k 0 id v m.1 at, ((λ e. absurd (miss e)), λ _. refl)))

    -- opening
    pub open_keeps : (slots id : ℕ) (m : M) → m.0.turn ≡ 2 → 0 < m.0.weight → Allows Rule slots id m 0 (λ _. 1) (λ _. opened history (step slots 0 1 0 maybe.none) m 1)
    open_keeps slots id m two some_weight s k _ at _ = let v = m.0 in let long = k.words in let f = k.views id v at in let own = f.holder (omega arith) in
        let w = seeing v v.seen 1 in let held : get_or s.words 0 0 ≡ 2 = sym own.0 ∙ two in
        let now : get_or (set s.words 0 1) 0 0 ≡ 1 = get_or-set_same s.words 0 1 0 (omega arith) in (
          w,
          takes 0 None,
          k.opening held,
          next_state_kept s k id v w v.seen (set s.words 0 1) (set s.homes 0 maybe.none) at refl refl refl some_weight f.mine
              (λ _. sym now) (omega arith) (subst (λ (l : List E). StartsWith l k.history) (sym own.1) (starts_with_itself k.history)) (holder_alone s k id v at (omega arith))
              (length-set s.words 0 1) (length-set s.homes 0 maybe.none) (λ e. absurd (omega arith)) (λ e. absurd (omega arith)) (rows_kept s.words 1 k.history v.seen own.1 k.rows),
          refl,
        )

    -- where the history goes from `before` to `after` the word i becomes x: the turn stays held and no standing differs, or the one row that differs is written
    abbrev pub Writes : List E → List E → ℕ → ℕ → Type 0
    Writes before after i x =
        ((i ≡ 0) × (x ≡ 1) × ((p : ℕ) → standing after p ≡ standing before p))
        ⊎ ((q : ℕ) × (i ≡ q + 1) × (q < 1024) × Shows x (standing after q) × ((p : ℕ) → p ≢ q → standing after p ≡ standing before p))

    written_rows : (words : List ℕ) (before after : List E) (i x : ℕ) → length words ≡ 1025 → get_or words 0 0 ≡ 1 → Writes before after i x → ((p : ℕ) → p < 1024 → Shows (get_or words (p + 1) 0) (standing before p))
        → (get_or (set words i x) 0 0 ≡ 1) × ((p : ℕ) → p < 1024 → Shows (get_or (set words i x) (p + 1) 0) (standing after p))
    written_rows words before after i x long held (inl t) rows = subst (λ (j : ℕ). (get_or (set words j x) 0 0 ≡ 1) × ((p : ℕ) → p < 1024 → Shows (get_or (set words j x) (p + 1) 0) (standing after p))) (sym t.0)
        (get_or-set_same words 0 x 0 (omega arith) ∙ t.1, λ p h. subst (λ (y : ℕ × Standing). Shows y.0 y.1) (λ k. (sym (get_or-set_other words 0 (p + 1) x 0 (λ e. omega arith)) k, sym (t.2 p) k)) (rows p h))
    written_rows words before after i x long held (inr t) rows = let q = t.0 in let small = t.2 in subst (λ (j : ℕ). (get_or (set words j x) 0 0 ≡ 1) × ((p : ℕ) → p < 1024 → Shows (get_or (set words j x) (p + 1) 0) (standing after p))) (sym t.1) (
      get_or-set_other words (q + 1) 0 x 0 (λ e. omega arith) ∙ held,
      λ p h. dite (ℕ_discrete p q)
          (λ e. subst (λ (z : ℕ). Shows (get_or (set words (q + 1) x) (z + 1) 0) (standing after z)) (sym e) (subst (λ (y : ℕ). Shows y (standing after q)) (sym (get_or-set_same words (q + 1) x 0 (omega arith))) t.3))
          (λ ne. subst (λ (y : ℕ × Standing). Shows y.0 y.1) (λ k. (sym (get_or-set_other words (q + 1) (p + 1) x 0 (λ e. ne (omega arith))) k, sym (t.4 p ne) k)) (rows p h)),
    )

    -- entry store and row store
    enter_keeps : (slots id : ℕ) (m : M) (i x : ℕ) (core : O) → m.0.turn ≡ 1 → 0 < m.0.weight → m.1 ≡ (0, Some core) ∷ [] → (history core ≡ m.0.seen) ⊎ AddsOne m.0.seen (history core)
        → Writes m.0.seen (history core) i x → Allows Rule slots id m i (λ _. x) (λ _. entered history (step slots i x 0 maybe.none) m x)
    enter_keeps slots id m i x core one some_weight has grew writes s k _ at _ = let v = m.0 in let f = k.views id v at in let own = f.holder (omega arith) in let log = history core in
        let held : get_or s.words 0 0 ≡ 1 = sym own.0 ∙ one in
        let r = written_rows s.words v.seen log i x k.words held writes (λ p h. subst (λ (l : List E). Shows (get_or s.words (p + 1) 0) (standing l p)) (sym own.1) (k.rows p h)) in
        let now = r.0 in let long = length-set s.words i x in
        let this : (w : View E) → Follows v log w → ((c : O) → m.1 ≡ (0, Some c) ∷ [] → Follows v (history c) w) = λ w fo c e. let held_one : Some core ≡ Some c = ap first_of (sym has ∙ e) in let same : core ≡ c = (cc) in subst (λ (y : O). Follows v (history y) w) same fo in
        ⊎_elim
        (λ (t : log ≡ v.seen). (
          v,
          keeps,
          tt,
          next_state_kept s k id v v log (set s.words i x) s.homes at (sym t) refl refl some_weight (subst (λ (l : List E). ArePlaces v.mine (length l)) (sym t) f.mine) (λ _. one ∙ sym now) (omega arith)
              (subst (λ (l : List E). StartsWith l k.history) (sym (t ∙ own.1)) (starts_with_itself k.history)) (holder_alone s k id v at (omega arith)) long refl (λ e. absurd (omega arith)) (λ e. absurd (omega arith)) r.1,
          (refl, this v (inl (t, refl))),
        ))
        (λ (t : AddsOne v.seen log). let w = adding v log in let size : length log ≡ length v.seen + 1 = ap (λ (l : List E). length l) t.1 ∙ length-append v.seen (t.0 ∷ []) in (
          w,
          keeps,
          tt,
          next_state_kept s k id v w log (set s.words i x) s.homes at refl refl refl some_weight (subst (λ (n : ℕ). ArePlaces w.mine n) (sym size) (places_and_end v.mine (length v.seen) f.mine)) (λ _. one ∙ sym now) (omega arith)
              (t.0 ∷ [], t.1 ∙ ap (λ (l : List E). l ++ t.0 ∷ []) own.1) (holder_alone s k id v at (omega arith)) long refl (λ e. absurd (omega arith)) (λ e. absurd (omega arith)) r.1,
          (refl, this w (inr (t, refl))),
        ))
        grew

    -- entry store
    pub entry_keeps : (slots id : ℕ) (m : M) → HasCalled history standing None m → Allows Rule slots id m 0 (λ _. 1) (λ _. entered history (step slots 0 1 0 maybe.none) m 1)
    entry_keeps slots id m t = let call = t.4 in enter_keeps slots id m 0 1 t.0 t.2 t.3 t.1 call.entries (inl (refl, refl, call.changes))

    -- row store
    pub row_keeps : (slots id : ℕ) (m : M) (p x : ℕ) (s : Standing) → HasCalled history standing (Some (p, s)) m → Shows x s → Allows Rule slots id m (p + 1) (λ _. x) (λ _. entered history (step slots (p + 1) x 0 maybe.none) m x)
    row_keeps slots id m p x s t shows = let call = t.4 in let c = call.changes in
        enter_keeps slots id m (p + 1) x t.0 t.2 t.3 t.1 call.entries (inr (p, refl, c.0, subst (Shows x) (sym c.1) shows, c.3))

    -- the process of a change has a row
    pub row_below : (m : M) (p : ℕ) (s : Standing) → HasCalled history standing (Some (p, s)) m → p < 1024
    row_below m p s t = let call = t.4 in call.changes.0

    -- release store
    pub release_keeps : (slots id : ℕ) (m : M) → m.0.turn ≡ 1 → 0 < m.0.weight → (core : O) × (m.1 ≡ (0, Some core) ∷ []) × (history core ≡ m.0.seen)
        → Allows Rule slots id m 0 (λ _. 0) (λ _. released history (step slots 0 0 0 maybe.none) m 0)
    release_keeps slots id m one some_weight home = let v = m.0 in let core = home.0 in let same = home.2 in
        subst (λ (c : List (ℕ × Option O)). Allows Rule slots id (v, c) 0 (λ _. 0) (λ _. released history (step slots 0 0 0 maybe.none) (v, c) 0)) (sym home.1)
        (λ s k _ at _. let f = k.views id v at in let own = f.holder (omega arith) in let w = seeing v v.seen 0 in let long = k.words in let deep = k.slots in
        let now : get_or (set s.words 0 0) 0 0 ≡ 0 = get_or-set_same s.words 0 0 0 (omega arith) in (
          w,
          gives,
          tt,
          next_state_kept s k id v w v.seen (set s.words 0 0) (set s.homes 0 (maybe.some (Some core))) at refl refl refl some_weight f.mine (λ h. absurd (omega arith)) (omega arith)
              (subst (λ (l : List E). StartsWith l k.history) (sym own.1) (starts_with_itself k.history)) (holder_alone s k id v at (omega arith)) (length-set s.words 0 0) (length-set s.homes 0 (maybe.some (Some core)))
              (λ _. (core, set_here s.homes 0 (maybe.some (Some core)) (omega arith), same)) (λ e. absurd (omega arith)) (rows_kept s.words 0 k.history v.seen own.1 k.rows),
          (refl, f.mine),
        ))

    -- a load by which a pass sees the whole history
    look_kept : (s : St) (k : Rule s) (id : ℕ) (v : View E) → get_elem? s.views id ≡ maybe.some v → Rule record { words = s.words; homes = s.homes; views = set s.views id (seeing v k.history v.turn) }
    look_kept s k id v at = let f = k.views id v at in let log = k.history in let w = seeing v log v.turn in let j = k.all_seen.0 in record {
      history = log;
      words = k.words;
      slots = k.slots;
      home = k.home;
      views = set_views (IsTrueOf log (get_or s.words 0 0)) s.views id w
          record { seen = starts_with_itself log; told = f.told; mine = places_of_more v.mine (length v.seen) (length log) f.mine (start_not_longer v.seen log f.seen); holder = λ h. let own = f.holder h in (own.0, refl, own.2) }
          (λ j u ne there. k.views j u there);
      rows = k.rows;
      weights = omega (arith, total-set weight_of s.views id v w at, k.weights);
      all_seen = dite (ℕ_discrete j id)
          (λ e. let same : v ≡ k.all_seen.1 = maybe.some-injective v k.all_seen.1 (sym at ∙ (ap (get_elem? s.views) (sym e) ∙ k.all_seen.2)) in
          (id, w, set_here s.views id w (place_below_length s.views id v at), subst (λ (x : View E). 0 < x.weight) (sym same) k.all_seen.3, refl))
          (λ ne. (j, k.all_seen.1, set_else s.views id j w ne ∙ k.all_seen.2, k.all_seen.3, k.all_seen.4));
      turns = omega (arith, total-set turn_of s.views id v w at, k.turns);
      opening = k.opening;
    }

    -- row load
    pub row_load_keeps : (slots id : ℕ) (m : M) (p : ℕ) → p < 1024 → Allows Rule slots id m (p + 1) (λ n. n) (row_read history standing (step slots (p + 1) 0 0 maybe.none) m)
    row_load_keeps slots id m p h s k _ at _ = let v = m.0 in let f = k.views id v at in let back : p + 1 - 1 ≡ p = omega arith in (
      seeing v k.history v.turn,
      keeps,
      tt,
      subst (λ (ws : List ℕ). Rule record { words = ws; homes = s.homes; views = set s.views id (seeing v k.history v.turn) }) (sym (set-get_or s.words (p + 1) 0)) (look_kept s k id v at),
      record {
        seat = refl;
        sees = (f.seen, λ full. sym (whole_weight_saw_all s k id v at full));
        told = f.told;
        places = places_of_more v.mine (length v.seen) (length k.history) f.mine (start_not_longer v.seen k.history f.seen);
        weight = omega (arith, term_below_total weight_of s.views id v at, k.weights);
        shows = subst (λ (q : ℕ). Shows (get_or s.words (p + 1) 0) (standing k.history q)) (sym back) (k.rows p h);
      },
    )

    -- seat split
    pub split_keeps : (id : ℕ) (v : View E) → 2 ≤ v.weight → Splits Rule id v (less_one v) (one_unit v)
    split_keeps id v two s k at = let f = k.views id v at in let w = less_one v in let n = one_unit v in let j = k.all_seen.0 in let vs = set s.views id w in record {
      history = k.history;
      words = k.words;
      slots = k.slots;
      home = k.home;
      views = λ j u e. ⊎_elim
          (set_views (IsTrueOf k.history (get_or s.words 0 0)) s.views id w record { seen = f.seen; told = f.told; mine = f.mine; holder = λ h. let own = f.holder h in (own.0, own.1, omega arith) } (λ j u ne there. k.views j u there) j u)
          (λ (t : n ≡ u). subst (IsTrueOf k.history (get_or s.words 0 0)) t record { seen = f.seen; told = (k.history, refl); mine = no_places (length v.seen); holder = λ h. absurd (omega arith) }) (at_snoc vs n u j e);
      rows = k.rows;
      weights = omega (arith, total-append weight_of vs (n ∷ []), total-set weight_of s.views id v w at, k.weights);
      all_seen = dite (ℕ_discrete j id)
          (λ e. let same : v ≡ k.all_seen.1 = maybe.some-injective v k.all_seen.1 (sym at ∙ (ap (get_elem? s.views) (sym e) ∙ k.all_seen.2)) in
          (id, w, at_longer vs (n ∷ []) id w (set_here s.views id w (place_below_length s.views id v at)), omega arith, ap (λ (x : View E). x.seen) same ∙ k.all_seen.4))
          (λ ne. (j, k.all_seen.1, at_longer vs (n ∷ []) j k.all_seen.1 (set_else s.views id j w ne ∙ k.all_seen.2), k.all_seen.3, k.all_seen.4));
      turns = omega (arith, total-append turn_of vs (n ∷ []), total-set turn_of s.views id v w at, k.turns);
      opening = k.opening;
    }

    -- seat join
    pub join_keeps : (id : ℕ) (v : View E) (other : ℕ) (w : View E) → 0 < v.weight → v.turn ≡ 0 → w.turn ≡ 0 → Joins Rule id v other w (joined v w) spent
    join_keeps id v other w some_weight off off' s k at apart there = let b = joined v w in let vs = set s.views id b in
        let there' : get_elem? s.views other ≡ maybe.some w = sym (set_else s.views id other b apart) ∙ there in
        let f = k.views id v at in let g = k.views other w there' in let log = k.history in let j = k.all_seen.0 in let l = longer_begins log v.seen w.seen f.seen g.seen in
        let here : get_elem? (set vs other spent) id ≡ maybe.some b = set_else vs other id spent (λ e. apart (sym e)) ∙ set_here s.views id b (place_below_length s.views id v at) in
        let full : (x : View E) → StartsWith b.seen x.seen → x.seen ≡ log → b.seen ≡ log = λ x begins e.
        let more : StartsWith b.seen log = subst (λ (y : List E). StartsWith b.seen y) e begins in whole_start log b.seen more (start_not_longer b.seen log l.0) in record {
          history = log;
          words = k.words;
          slots = k.slots;
          home = k.home;
          views = set_views (IsTrueOf log (get_or s.words 0 0)) vs other spent record { seen = (log, refl); told = (log, refl); mine = no_places 0; holder = λ h. absurd (omega arith) }
              (λ i u _. set_views (IsTrueOf log (get_or s.words 0 0)) s.views id b
              record { seen = l.0; told = l.3; mine = places_of_more v.mine (length v.seen) (length b.seen) f.mine (start_not_longer v.seen b.seen l.1); holder = λ h. absurd (omega arith) }
              (λ j u ne there. k.views j u there) i u);
          rows = k.rows;
          weights = omega (arith, total-set weight_of vs other w spent there, total-set weight_of s.views id v b at, k.weights);
          all_seen = dite (ℕ_discrete j id)
              (λ e. let same : v ≡ k.all_seen.1 = maybe.some-injective v k.all_seen.1 (sym at ∙ (ap (get_elem? s.views) (sym e) ∙ k.all_seen.2)) in
              (id, b, here, omega arith, full v l.1 (ap (λ (x : View E). x.seen) same ∙ k.all_seen.4)))
              (λ ne. dite (ℕ_discrete j other)
              (λ e. let same : w ≡ k.all_seen.1 = maybe.some-injective w k.all_seen.1 (sym there' ∙ (ap (get_elem? s.views) (sym e) ∙ k.all_seen.2)) in
              (id, b, here, omega arith, full w l.2 (ap (λ (x : View E). x.seen) same ∙ k.all_seen.4)))
              (λ ne'. (j, k.all_seen.1, set_else vs other j spent ne' ∙ (set_else s.views id j b ne ∙ k.all_seen.2), k.all_seen.3, k.all_seen.4)));
          turns = omega (arith, total-set turn_of vs other w spent there, total-set turn_of s.views id v b at, k.turns);
          opening = k.opening;
        }

    -- a new table, whose rows show the standings of the object that is to come into it
    pub new_table_kept : (words : List ℕ) (log : List E) → length words ≡ 1025 → get_or words 0 0 ≡ 2 → ((p : ℕ) → p < 1024 → Shows (get_or words (p + 1) 0) (standing log p))
        → Rule (opening words (None ∷ []) (opener log))
    new_table_kept words log long two rows = let v = opener log in record {
      history = log;
      words = long;
      slots = refl;
      home = λ e. absurd (omega arith);
      views = λ j u e. only j u e;
      rows = rows;
      weights = refl;
      all_seen = (0, v, refl, omega arith, refl);
      turns = sym two;
      opening = λ _. refl;
    } where
      only : (j : ℕ) (u : View E) → get_elem? (opener log ∷ []) j ≡ maybe.some u → IsTrueOf log (get_or words 0 0) u
      only zero u e = subst (IsTrueOf log (get_or words 0 0)) (maybe.some-injective (opener log) u e) record { seen = starts_with_itself log; told = (log, refl); mine = no_places (length log); holder = λ _. (sym two, refl, omega arith) }
      only (suc j) u e = absurd (maybe.some-ne-none u (sym e))

    -- at the end the object is at home, with all that the last pass has seen
    pub last_pass_closes : (id : ℕ) (v : View E) (ws : List ℕ) (xs : List (Option O)) → v.weight ≡ 16 → v.turn ≡ 0 → Final (Seen Rule id v) ws xs
        → (core : O) × (get_elem? xs 0 ≡ maybe.some (Some core)) × (history core ≡ v.seen)
    last_pass_closes id v ws xs full off t = let s = t.0 in let k = t.1.0 in let at = t.1.1 in
        let none : (j : ℕ) (u : View E) → get_elem? s.views j ≡ maybe.some u → u.turn ≡ 0 = λ j u there. dite (ℕ_discrete j id)
        (λ e. let same : v ≡ u = maybe.some-injective v u (sym at ∙ (ap (get_elem? s.views) (sym e) ∙ there)) in ap (λ (x : View E). x.turn) (sym same) ∙ off)
        (λ ne. dite (ℕ_discrete u.turn 0) (λ z. z) (λ some_turn. let own = (k.views j u there).holder (omega arith) in let both = two_terms_below_total weight_of s.views id j v u ne at there in let w = own.2 in absurd (omega (arith, k.weights)))) in
        let home = k.home (sym k.turns ∙ total_of_zeros turn_of s.views none) in
        (home.0, t.4 0 (Some home.0) home.1, home.2 ∙ sym (whole_weight_saw_all s k id v at full))

    -- so what is taken out of the slot is the object
    pub last_pass_takes : (id : ℕ) (v : View E) (ws : List ℕ) (xs : List (Option O)) (r : Option O) → v.weight ≡ 16 → v.turn ≡ 0 → Final (Seen Rule id v) ws xs
        → get_elem? xs 0 ≡ maybe.some r → (core : O) × (r ≡ Some core) × (history core ≡ v.seen)
    last_pass_takes id v ws xs r full off final at = let b = last_pass_closes id v ws xs full off final in (b.0, maybe.some-injective r (Some b.0) (sym at ∙ b.1), b.2)

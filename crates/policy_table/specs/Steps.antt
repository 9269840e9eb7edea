-- What each kind of step tells its seat: of the step, the seat before, the number found and the seat after.
-- A seat is a view with the slots that it has out, each with its number and what lies in it.
use Rattle.std.specs.Prelude.{◌≡◌, ◌≢◌, ℕ, ◌+◌, ◌-◌, ◌<◌, ◌≤◌, List, [], ◌∷◌, length, Option, Some, None}
use Rattle.atomic_table.specs.Table.{Me, Step, rest}
use Rattle.atomic_table.specs.Seated.{TableId}
use Rattle.policy_table.specs.declared.view.View.{View}
use Rattle.policy_table.specs.declared.standing.Standing.{Standing}
use Rattle.policy_table.specs.Histories.{StartsWith, ArePlaces}
use Rattle.policy_table.specs.Changes.{OneCall}
use Rattle.policy_table.specs.TableRule.{Shows}
use Rattle.policy_table.specs.Views.{seeing, Sees, Follows}
use Rattle.policy_table.specs.declared.standing.TheConstants.{PROCESSES}

-- a seat of this table, which has the turn word, 1,024 rows and one slot
abbrev pub SitsAt : TableId → TableId → Type 0
SitsAt table seat = (seat ≡ table) × (table.words ≡ PROCESSES + 1) × (table.slots ≡ 1)

module _ {E O : Type 0} (history : O → List E) where
  -- a seat of the desk
  abbrev pub Place : Type 0
  Place = Me (Option O) (View E)

  -- the seat has the turn, and the object in its slot, all of whose history it has seen
  abbrev pub TakesTurn : Place → Place → Type 0
  TakesTurn m n = (core : O) × (n ≡ (seeing m.0 (history core) 1, (0, Some core) ∷ m.1)) × Sees m.0 (history core)

  -- the seat has the turn, an empty slot out, and has seen this history
  abbrev pub HoldsTurn : View E → List E → Place → Type 0
  HoldsTurn v log m = (m ≡ (seeing v log 1, (0, None) ∷ [])) × Sees v log

  -- the seat has the turn, and in its slot an object that has made one call since the history that was seen
  abbrev pub HasCalled : (List E → ℕ → Standing) → Option (ℕ × Standing) → Place → Type 0
  HasCalled standing change m =
      (core : O) × (m.1 ≡ (0, Some core) ∷ []) × (m.0.turn ≡ 1) × (0 < m.0.weight) × OneCall standing m.0.seen (history core) change

  -- take: where the turn was free the seat has it now, and else nothing changed
  abbrev pub taken : Step (Option O) → Place → ℕ → Place → Type 0
  taken st m found n = (found ≡ 0 → TakesTurn m n) × (found ≢ 0 → n ≡ m)

  -- opening: the seat has the turn, and the empty slot
  abbrev pub opened : Step (Option O) → Place → ℕ → Place → Type 0
  opened st m found n = n ≡ (seeing m.0 m.0.seen 1, (0, None) ∷ m.1)

  -- entry store and row store: the history of the object in the slot joins what was seen
  abbrev pub entered : Step (Option O) → Place → ℕ → Place → Type 0
  entered st m found n = (n.1 ≡ m.1) × ((core : O) → m.1 ≡ (0, Some core) ∷ [] → Follows m.0 (history core) n.0)

  -- release store: the slot is at home, and the turn is free
  abbrev pub released : Step (Option O) → Place → ℕ → Place → Type 0
  released st m found n = (n ≡ (seeing m.0 m.0.seen 0, rest m.1)) × ArePlaces n.0.mine (length n.0.seen)

  -- what a load of a row tells: the seat has seen a history in which the process stands as the word shows, and which begins with what it was told of
  pub record RowRead (standing : List E → ℕ → Standing) (process : ℕ) (m : Place) (found : ℕ) (n : Place) : Type 0 where
    pub seat : n ≡ (seeing m.0 n.0.seen m.0.turn, m.1)
    pub sees : Sees m.0 n.0.seen
    pub told : StartsWith n.0.seen m.0.told
    pub places : ArePlaces n.0.mine (length n.0.seen)
    pub weight : m.0.weight ≤ 16
    pub shows : Shows found (standing n.0.seen process)

  -- row load: of the row's process
  abbrev pub row_read : (List E → ℕ → Standing) → Step (Option O) → Place → ℕ → Place → Type 0
  row_read standing st m found n = RowRead standing (st.word - 1) m found n

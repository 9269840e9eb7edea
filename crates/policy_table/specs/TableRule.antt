-- The rule of the table: what holds of its words, its slot and the views of all passes between any two steps.
-- Word 0 is the turn: 0 while it is free, 1 while it is held, and 2 while the desk is opened, which is held too.
-- The word p + 1 is the row of process p. The slot holds the object.
-- A later book of the rows, which says whose each row is, lies in the slot beside the object: the slot's type becomes a pair,
-- clause 1 speaks of both parts, clause 3 of the rows that the book names, and the holder's view gets the book that its steps have left.
use Rattle.std.specs.Prelude.{◌≡◌, ℕ, ◌+◌, ◌^◌, ◌<◌, List, length, slice_index, Option, Some, None}
use mathlib.Core.Option as maybe
use lib.ListN.{get_elem?}
use Rattle.atomic_table.specs.Table.{State}
use Rattle.policy_table.specs.declared.view.View.{View}
use Rattle.policy_table.specs.declared.standing.Standing.{Standing}
use Rattle.policy_table.specs.declared.standing.Standing.TheVariants.{Absent, Warm, Locked, Dead}
use Rattle.policy_table.specs.Histories.{StartsWith, ArePlaces, total}
use Rattle.policy_table.specs.declared.standing.TheConstants.{PROCESSES}

-- the number that shows a standing in a row's word
abbrev pub code : Standing → ℕ
code Absent = 0
code Warm = 1
code Dead = 2
code (Locked site) = site + 3

-- the word shows this standing, whose site, if any, is below 2^32
abbrev pub Shows : ℕ → Standing → Type 0
Shows word standing = (word ≡ code standing) × (word < 2 ^ 32 + 3)

module _ {E : Type 0} where
  -- a view's units of weight
  abbrev pub weight_of : View E → ℕ
  weight_of view = view.weight

  -- what a view holds of the turn word
  abbrev pub turn_of : View E → ℕ
  turn_of view = view.turn

  -- the view is true of the history and the turn word: it has seen a beginning of the history, its own entries have increasing places there,
  -- and where it says that its pass is the holder, the turn word says so too, and it has seen all
  pub record IsTrueOf (history : List E) (turn : ℕ) (view : View E) : Type 0 where
    pub seen : StartsWith history view.seen
    pub told : StartsWith history view.told
    pub mine : ArePlaces view.mine (length view.seen)
    pub holder : 0 < view.turn → (view.turn ≡ turn) × (view.seen ≡ history) × (0 < view.weight)

  -- a pass that isn't spent has seen the whole history
  abbrev pub SomeSawAll : List E → List (View E) → Type 0
  SomeSawAll history views = (id : ℕ) × (view : View E) × (get_elem? views id ≡ maybe.some view) × (0 < view.weight) × (view.seen ≡ history)

  module _ {O : Type 0} (history_of : O → List E) (standing : List E → ℕ → Standing) where
    -- the slot is at home, with an object of this history
    abbrev pub IsHome : List E → List (maybe.Option (Option O)) → Type 0
    IsHome history homes = (core : O) × (get_elem? homes 0 ≡ maybe.some (maybe.some (Some core))) × (history_of core ≡ history)

    -- There is one history, of which the following holds.
    pub record IsKept (s : State (Option O) (View E)) : Type 0 where
      pub history : List E
      pub words : length s.words ≡ PROCESSES + 1
      pub slots : length s.homes ≡ 1
      -- 1. While the turn is free the object is at home, and its history is the one history. Every table keeps that a slot is at home or out with one seat alone.
      pub home : slice_index s.words 0 ≡ 0 → IsHome history s.homes
      -- 2. What each pass has seen is a beginning of the history, and its own entries have increasing places there.
      pub views : (id : ℕ) (view : View E) → get_elem? s.views id ≡ maybe.some view → IsTrueOf history (slice_index s.words 0) view
      -- 3. Each row shows how its process stands in the history.
      pub rows : (process : ℕ) → process < PROCESSES → Shows (slice_index s.words (process + 1)) (standing history process)
      -- 4. The weights add up to 16, and a pass that isn't spent has seen the whole history.
      pub weights : total weight_of s.views ≡ 16
      pub all_seen : SomeSawAll history s.views
      -- 5. While the turn is held just one view says that its pass is the holder. While it is free none says so.
      pub turns : total turn_of s.views ≡ slice_index s.words 0
      -- While the desk is opened the slot is at home and empty.
      pub opening : slice_index s.words 0 ≡ 2 → get_elem? s.homes 0 ≡ maybe.some (maybe.some None)

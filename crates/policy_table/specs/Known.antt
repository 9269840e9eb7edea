-- What contracts see of a pass.
use Rattle.std.specs.Prelude.{◌≡◌, ◌⊎◌, ℕ, List, [], ◌∷◌, ◌++◌, length}
use Rattle.atomic_table.specs.Seated.{TableId}
use Rattle.policy_table.specs.declared.view.View.{View}
use Rattle.policy_table.specs.Histories.{StartsWith, AddsOne}

-- the desk, the beginning of its history that was seen, the places in it of the pass's own entries, and the units of weight
pub record Known (E : Type 0) : Type 0 where
  pub desk : TableId
  pub seen : List E
  pub mine : List ℕ
  pub weight : ℕ

module _ {E : Type 0} where
  -- the four as one value
  abbrev pub known : TableId → List E → List ℕ → ℕ → Known E
  known desk seen mine weight = record { desk = desk; seen = seen; mine = mine; weight = weight }

  -- what contracts see of a view
  abbrev pub known_of : TableId → View E → Known E
  known_of desk view = known desk view.seen view.mine view.weight

  -- the one view of a badge
  abbrev pub view_in : List (View E) → View E
  view_in [] = record { seen = []; told = []; mine = []; weight = 0; turn = 0 }
  view_in (view ∷ views) = view

  -- the pass with this history seen, and all else as it was
  abbrev pub seeing : Known E → List E → Known E
  seeing pass seen = known pass.desk seen pass.mine pass.weight

  -- the pass with this weight, and all else as it was
  abbrev pub weighing : Known E → ℕ → Known E
  weighing pass weight = known pass.desk pass.seen pass.mine weight

  -- the pass after its own call added the last entry of this history, at the place that was the history's end
  abbrev pub adding : Known E → List E → List E → Known E
  adding pass found after = known pass.desk after (pass.mine ++ length found ∷ []) pass.weight

  -- a pass found this history: it begins with all that the pass had seen, and is just that where the pass has the whole weight, so that no other is out
  pub record Finds (pass : Known E) (history : List E) : Type 0 where
    pub begins : StartsWith history pass.seen
    pub alone : pass.weight ≡ 16 → history ≡ pass.seen

  -- the pass has seen a history that it found, and all else is as it was
  pub record Looks (before after : Known E) : Type 0 where
    pub finds : Finds before after.seen
    pub rest : after ≡ seeing before after.seen

  -- a call was made at the history that was found: it added nothing, or one entry, whose place is now one of the pass's own
  abbrev pub CallsAt : List E → Known E → Known E → Type 0
  CallsAt found before after = (after ≡ seeing before found) ⊎ (AddsOne found after.seen × (after ≡ adding before found after.seen))

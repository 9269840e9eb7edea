-- What a pass knows before and after its steps.
use Rattle.std.specs.Prelude.{◌≡◌, ◌⊎◌, ℕ, ◌+◌, ◌-◌, List, [], ◌∷◌, ◌++◌, length, nat_lt, if◌then◌else◌}
use Rattle.policy_table.specs.declared.view.View.{View}
use Rattle.policy_table.specs.Histories.{StartsWith, AddsOne}

module _ {E : Type 0} where
  abbrev pub view : List E → List E → List ℕ → ℕ → ℕ → View E
  view seen told mine weight turn = record { seen = seen; told = told; mine = mine; weight = weight; turn = turn }

  -- the first pass, while it opens the desk
  abbrev pub opener : List E → View E
  opener seen = view seen [] [] 16 2

  -- a pass that another has taken in, and that is gone
  abbrev pub spent : View E
  spent = view [] [] [] 0 0

  -- what is left after a split
  abbrev pub less_one : View E → View E
  less_one v = view v.seen v.told v.mine (v.weight - 1) v.turn

  -- what is split off: one unit of weight, with as much seen and no entry of its own
  abbrev pub one_unit : View E → View E
  one_unit v = view v.seen [] [] 1 0

  -- of two lists the longer one, and the other
  abbrev pub longer : List E → List E → List E
  longer xs ys = if nat_lt (length xs) (length ys) then ys else xs

  abbrev pub shorter : List E → List E → List E
  shorter xs ys = if nat_lt (length xs) (length ys) then xs else ys

  -- after a meeting: both weights, the longer beginning seen, and the shorter told
  abbrev pub joined : View E → View E → View E
  joined v w = view (longer v.seen w.seen) (shorter v.seen w.seen) v.mine (v.weight + w.weight) v.turn

  -- the view with this history seen, and this much of the turn
  abbrev pub seeing : View E → List E → ℕ → View E
  seeing v seen turn = view seen v.told v.mine v.weight turn

  -- the view after its own entry became the last of this history
  abbrev pub adding : View E → List E → View E
  adding v seen = view seen v.told (v.mine ++ length v.seen ∷ []) v.weight v.turn

  -- the history begins with all that was seen, and is just that at the whole weight
  abbrev pub Sees : View E → List E → Type 0
  Sees v history = StartsWith history v.seen × (v.weight ≡ 16 → history ≡ v.seen)

  -- the history that the object has by now joins what was seen: nothing was added, or one entry of this view's own
  abbrev pub Follows : View E → List E → View E → Type 0
  Follows v history w = ((history ≡ v.seen) × (w ≡ v)) ⊎ (AddsOne v.seen history × (w ≡ adding v history))

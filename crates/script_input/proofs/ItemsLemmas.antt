-- The items of a list.
use Rattle.std.proofs.Common.{◌≡◌, ◌≢◌, ℕ, ◌+◌, List, [], ◌∷◌, ◌++◌, drop, length, refl, arith, Ok}
use Rattle.std.specs.Prelude.{All, decimal}
use Rattle.std.proofs.lemmas.List.Elements.{All-push}
use Rattle.serde_json.specs.Data.{Data}
use Rattle.serde_json.specs.View.{items_view, view}
use Rattle.serde_json.specs.declared.value.Value.{Value}
use Rattle.script_input.specs.Checked.{Checked, below, refuse}
use Rattle.script_input.specs.Headers.{pair_of}
use Rattle.script_input.specs.Refusals.{past_limit}
use Rattle.script_input.specs.Lists.{item_count, items_from}

pub item_count_view : (values : List Value) → item_count (items_view values) ≡ length values
item_count_view [] = refl
item_count_view (v ∷ values) = grind (arith, item_count_view values)

-- what holds of each item holds of one more
pub all_more : {A : Type 0} (P : A → Type 0) (items : List A) (item : A) → All P items → P item → All P (items ++ item ∷ [])
all_more P items item all one = All-push P items item all one

-- the item at an index is read, and then those behind it
pub one_more_read : {A : Type 0} (read : List A → Data → Checked A) (before : List A) (i : ℕ) (values : List Value) (value : Value) (x : A) → drop i values ≡ value ∷ drop (i + 1) values → below (decimal i) (read before (view value)) ≡ Ok x → items_from read before i (items_view (drop i values)) ≡ items_from read (before ++ x ∷ []) (i + 1) (items_view (drop (i + 1) values))
one_more_read read before i values value x front is = rw (front, is) refl

-- a list of another length than two is no header
pub no_pair : (values : List Value) → length values ≢ 2 → pair_of (items_view values) ≡ refuse past_limit
no_pair [] other = refl
no_pair (v ∷ []) other = refl
no_pair (v ∷ w ∷ []) other = absurd (other refl)
no_pair (v ∷ w ∷ x ∷ values) other = refl

-- A history whose first entries were swapped.
use Rattle.std.specs.Prelude.{◌≡◌, IfSome, List, Option, map, take, ℕ}
use Rattle.history_entry.specs.declared.entry.Entry.{Entry}
use Rattle.script_model.specs.ScriptData.{ScriptData}
use Rattle.history_laws.specs.Secret.{has_key, swapped}
use Rattle.secret_bodies.specs.declared.swapping.KeyAnswer.{KeyAnswer}

-- the first i entries were swapped, and the last answer is that of its request
pub record IsSwapSoFar (s : ScriptData) (key body : List ℕ) (h : List Entry) (i : ℕ) (last : Option KeyAnswer) (so_far : List Entry) : Type 0 where
  pub answered : IfSome last (λ a. a.has_key ≡ has_key h key a.request)
  pub same : so_far ≡ map (swapped s key body h) (take i h)

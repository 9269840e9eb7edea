-- For proofs: how private functions hand refusals on, and what is kept of lists while their items are read, one after another.
use Rattle.std.specs.Prelude.{◌≡◌, ◌≢◌, ◌≤◌, ◌<◌, All, AllPairs, ℕ, List, length, ◌⊎◌, Result, Ok, Err}
use Rattle.std.specs.List.Sorted.{IsStrictlyIncreasing}
use Rattle.script_model.specs.ActionLimits.{IsAction, IsActionAmong}
use Rattle.script_model.specs.ResourceData.{ResourceData}
use Rattle.script_model.specs.ScriptData.{resource_key}
use Rattle.script_model.specs.declared.action.Action.{Action}
use Rattle.script_input.specs.declared.refusal.ScriptStop.{ScriptStop}
use Rattle.script_input.specs.declared.refusal.ScriptStop.TheVariants.{Refused, NoMemory}
use Rattle.script_input.specs.Refusals.{behind}

-- memory ran out, or the same refusal, seen from one step further up
abbrev pub IsBehind : List ℕ → ScriptStop → ScriptStop → Type 0
IsBehind step (Refused r) new = (new ≡ NoMemory) ⊎ (new ≡ Refused (behind step r))
IsBehind step NoMemory new = new ≡ NoMemory

-- the outcome, with its refusal seen from one step further up
abbrev pub IsBelow : {X : Type 0} → List ℕ → Result X ScriptStop → Result X ScriptStop → Type 0
IsBelow step (Ok x) result = result ≡ Ok x
IsBelow step (Err stop) result = (new : ScriptStop) × (result ≡ Err new) × IsBehind step stop new

-- a name and a value of a header within their limits
pub record IsShort (header : List ℕ × List ℕ) : Type 0 where
  pub name : length header.0 ≤ 64
  pub value : length header.1 ≤ 1024

-- cuts, each before the next, each within a body of so many bytes
pub record AreCuts (size : ℕ) (cuts : List ℕ) : Type 0 where
  pub rising : IsStrictlyIncreasing cuts
  pub within : All (λ cut. (0 < cut) × (cut < size)) cuts

-- the actions of a resource, in a script of so many
pub record AreActions (count : ℕ) (actions : List Action) : Type 0 where
  pub few : length actions ≤ 64
  pub each : All IsAction actions
  pub among : All (IsActionAmong count) actions

-- resources of a script of so many: no two with one key, and with actions that name only resources that there are
pub record AreResources (count : ℕ) (resources : List ResourceData) : Type 0 where
  pub distinct : AllPairs (λ a b. resource_key a ≢ resource_key b) resources
  pub among : All (λ r. All (IsActionAmong count) r.actions) resources

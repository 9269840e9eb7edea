-- What the answer of a step says of the whole response: of all pieces that its wire ever gives, and of how it ends behind them.
use Rattle.std.specs.Prelude.{◌≡◌, Bool, List, None, Some, false, is_some, length, not, slice_get, true, ⊤, ℕ}
use Rattle.browser_io.specs.Wires.{IsUsedUp}
use Rattle.read_verdict.specs.Cases.{Case, verdict_on}
use Rattle.read_verdict.specs.declared.step.Step.{Step}
use Rattle.read_verdict.specs.declared.step.Step.TheVariants.{Held, Head, Piece, Whole, Blocked, Fault, Gone}
use Rattle.script_model.specs.declared.verdict.Verdict.{Verdict}
use Rattle.script_model.specs.declared.verdict.Verdict.TheVariants.{Allow, Block}
use Rattle.loader.specs.Loads.{HasLoaded, IsWireOf, bytes_of}
use Rattle.loader.specs.Steps.{GoesOn, Says, out_after}
use Rattle.loader.specs.declared.progress.Progress.{Progress}

-- the head was told
abbrev pub is_headed : Progress → Bool
is_headed load = is_some load.cleared

-- whether the head was told, after a step
abbrev pub headed_after : Bool → Step → Bool
headed_after headed (Head cleared) = true
headed_after headed Held = headed
headed_after headed (Piece part) = headed
headed_after headed Whole = headed
headed_after headed (Blocked rule) = headed
headed_after headed Fault = headed
headed_after headed Gone = headed

-- a load of these pieces, of a wire that fails behind them or ends, whose head was told or not and that has handed out some of them
pub record Moment : Type 0 where
  pub case : Case
  pub all : List (List ℕ)
  pub fails : Bool
  pub headed : Bool
  pub out : List (List ℕ)

-- the verdict on the whole response
abbrev pub WholeVerdict : Moment → Verdict → Type 0
WholeVerdict m v = verdict_on m.case (bytes_of m.all) (not m.fails) ≡ Some v

-- What an answer says of the whole response.
abbrev pub SaysOfWhole : Moment → Step → Type 0
SaysOfWhole m Held = m.headed ≡ false
-- the verdict on the whole allows it by the rule of the leave, which is for the request
SaysOfWhole m (Head cleared) = (m.headed ≡ false) × (cleared.request ≡ m.case.request) × WholeVerdict m (Allow cleared.rule)
-- after the head, the piece behind those that were handed out
SaysOfWhole m (Piece part) =
    (m.headed ≡ true) × (part.cleared.request ≡ m.case.request) × (part.index ≡ length m.out) × (slice_get m.all (length m.out) ≡ Some part.bytes)
-- after the head, all pieces were handed out, and the wire ends
SaysOfWhole m Whole = (m.headed ≡ true) × (m.out ≡ m.all) × (m.fails ≡ false)
-- without a head, the verdict on the whole blocks it by this rule
SaysOfWhole m (Blocked rule) = (m.headed ≡ false) × WholeVerdict m (Block rule)
-- the wire fails: after the head all pieces were handed out, and without it all of them settle nothing
SaysOfWhole m Fault =
    (m.fails ≡ true) × (m.headed ≡ true → m.out ≡ m.all) × (m.headed ≡ false → verdict_on m.case (bytes_of m.all) false ≡ None)
SaysOfWhole m Gone = ⊤

-- a step from one state of a load to another, over a wire that tells its pieces, with those that are left of it
pub record IsStepOver (m : Moment) (old new : Progress) (before left : List (List ℕ)) (step : Step) : Type 0 where
  pub loaded : HasLoaded old m.case m.out
  pub headed : is_headed old ≡ m.headed
  pub says : Says m.case m.out old new step
  pub wire_before : IsWireOf old m.out (Some before) m.fails m.all
  pub wire : IsWireOf new (out_after m.out step) (Some left) m.fails m.all
  pub used_up : step ≡ Fault → IsUsedUp (Some left) m.fails true

-- the answer of each step says so of the whole, and whether the head was told afterwards
abbrev pub StepsSayOfWhole : Type 0
StepsSayOfWhole = (m : Moment) (old new : Progress) (before left : List (List ℕ)) (step : Step) → IsStepOver m old new before left step
    → SaysOfWhole m step × (GoesOn step → is_headed new ≡ headed_after m.headed step)

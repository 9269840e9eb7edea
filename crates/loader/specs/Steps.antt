-- What the answer of a step says.
use Rattle.std.specs.Prelude.{◌≡◌, ◌≢◌, ◌⊎◌, ◌≤◌, ◌+◌, ◌∷◌, ◌++◌, [], true, false, List, None, Some, IsSome, length, ⊤, ℕ}
use Rattle.read_verdict.specs.Cases.{Case, verdict_on}
use Rattle.read_verdict.specs.ClearedData.{ClearedData}
use Rattle.read_verdict.specs.declared.step.Step.{Step}
use Rattle.read_verdict.specs.declared.step.Step.TheVariants.{Held, Head, Piece, Whole, Blocked, Fault, Gone}
use Rattle.script_model.specs.declared.verdict.Verdict.TheVariants.{Allow, Block}
use Rattle.loader.specs.Loads.{HasLoaded, IsLeave, bytes_of, taken, taken_count, verdict_so_far}
use Rattle.loader.specs.declared.progress.Progress.{Progress}

-- the pieces that were handed out, after a step
abbrev pub out_after : List (List ℕ) → Step → List (List ℕ)
out_after out Held = out
out_after out (Head cleared) = out
out_after out (Piece part) = out ++ part.bytes ∷ []
out_after out Whole = out
out_after out (Blocked rule) = out
out_after out Fault = out
out_after out Gone = out

-- the answers after which the load goes on
abbrev pub GoesOn : Step → Type 0
GoesOn Held = ⊤
GoesOn (Head cleared) = ⊤
GoesOn (Piece part) = ⊤
GoesOn Whole = ⊥
GoesOn (Blocked rule) = ⊥
GoesOn Fault = ⊥
GoesOn Gone = ⊥

-- one more piece is held
abbrev pub HoldsOneMore : Progress → Progress → Type 0
HoldsOneMore old new = (piece : List ℕ) × (new.held.items ≡ old.held.items ++ piece ∷ [])

-- the piece that was handed out was the first of those held, or came of the wire while none was held
abbrev pub IsNext : Progress → Progress → List ℕ → Type 0
IsNext old new piece = (old.held.items ≡ piece ∷ new.held.items) ⊎ ((old.held.items ≡ []) × (new.held.items ≡ []))

-- What an answer says of the load before and after its step, which had handed out these pieces before.
abbrev pub Says : Case → List (List ℕ) → Progress → Progress → Step → Type 0
-- before the head a piece was taken, and all bytes taken settle nothing
Says case out old new Held = HoldsOneMore old new × (verdict_so_far new case out ≡ None) × (old.cleared ≡ None) × (new.cleared ≡ None)
-- the first time, with the leave that all later pieces have
Says case out old new (Head cleared) = (old.cleared ≡ None) × (new.cleared ≡ Some cleared) × IsLeave new case out cleared
-- after the head, the next piece
Says case out old new (Piece part) =
    (old.cleared ≡ Some part.cleared) × (new.cleared ≡ Some part.cleared) × (part.index ≡ length out) × IsNext old new part.bytes × IsLeave new case (out ++ part.bytes ∷ []) part.cleared
-- after the head, with no piece held, and the wire answered 0
Says case out old new Whole = IsSome old.cleared × (new.held.items ≡ []) × (new.ended ≡ true)
-- without a head, by the verdict on all bytes taken
Says case out old new (Blocked rule) = (old.cleared ≡ None) × (verdict_so_far new case out ≡ Some (Block rule))
-- after the head with no piece held, and without it where all bytes taken settle nothing
Says case out old new Fault = (IsSome old.cleared → new.held.items ≡ []) × (old.cleared ≡ None → verdict_so_far new case out ≡ None)
Says case out old new Gone = ⊤

-- what a load that judges tells of the verdict on the bytes that it holds
abbrev pub Tells : Case → Progress → Progress → Step → Type 0
Tells case old new Held = (verdict_on case (bytes_of old.held.items) old.ended ≡ None) × (new.cleared ≡ old.cleared)
Tells case old new (Head cleared) =
    (verdict_on case (bytes_of old.held.items) old.ended ≡ Some (Allow cleared.rule)) × (cleared.request ≡ case.request) × (new.cleared ≡ Some cleared)
Tells case old new (Piece part) = ⊥
Tells case old new Whole = ⊥
Tells case old new (Blocked rule) = verdict_on case (bytes_of old.held.items) old.ended ≡ Some (Block rule)
Tells case old new Fault = ⊥
Tells case old new Gone = ⊥

-- the load needs a read: before the head all bytes taken settle nothing, and after it no piece is held
pub record IsWaiting (load : Progress) : Type 0 where
  pub open_end : load.ended ≡ false
  pub before : load.cleared ≡ None → (case : Case) (out : List (List ℕ)) → HasLoaded load case out → verdict_so_far load case out ≡ None
  pub after : (cleared : ClearedData) → load.cleared ≡ Some cleared → load.held.items ≡ []

-- the load needs none
pub record IsReady (load : Progress) : Type 0 where
  pub before : load.cleared ≡ None → (case : Case) (out : List (List ℕ)) → HasLoaded load case out → verdict_so_far load case out ≢ None
  pub after : (cleared : ClearedData) → load.cleared ≡ Some cleared → load.held.items ≡ [] → load.ended ≡ true

-- a step of the load that took these pieces of its wire
pub record IsStep (old new : Progress) (came : List (List ℕ)) (step : Step) : Type 0 where
  pub says : (case : Case) (out : List (List ℕ)) → HasLoaded old case out → Says case out old new step
  pub goes_on : (case : Case) (out : List (List ℕ)) → HasLoaded old case out → GoesOn step → HasLoaded new case (out_after out step)
  pub taken_by : (out : List (List ℕ)) → taken new (out_after out step) ≡ taken old out ++ came
  pub few : taken_count new ≤ taken_count old + length came
  pub alive : step ≢ Gone

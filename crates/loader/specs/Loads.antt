-- How far a load is, given the pieces that it has handed out.
use Rattle.std.specs.Prelude.{◌≡◌, ◌+◌, ◌++◌, [], Bool, true, false, IfSome, List, None, Option, Some, flat_map, length, ℕ}
use Rattle.browser_io.specs.Wires.{IsUsedUp}
use Rattle.read_verdict.specs.Cases.{Case, verdict_on}
use Rattle.read_verdict.specs.ClearedData.{ClearedData}
use Rattle.read_verdict.specs.HasJudged.{HasJudged}
use Rattle.script_model.specs.declared.verdict.Verdict.{Verdict}
use Rattle.script_model.specs.declared.verdict.Verdict.TheVariants.{Allow}
use Rattle.loader.specs.declared.progress.Progress.{Progress}

-- all bytes of these pieces
abbrev pub bytes_of : List (List ℕ) → List ℕ
bytes_of pieces = flat_map (λ piece. piece) pieces

-- the pieces taken of the wire: those that were handed out, and those that are held
abbrev pub taken : Progress → List (List ℕ) → List (List ℕ)
taken load out = out ++ load.held.items

-- how many they are
abbrev pub taken_count : Progress → ℕ
taken_count load = load.handed + length load.held.items

-- the verdict on all bytes taken. The body has ended exactly where the wire has answered 0.
abbrev pub verdict_so_far : Progress → Case → List (List ℕ) → Option Verdict
verdict_so_far load case out = verdict_on case (bytes_of (taken load out)) load.ended

-- leave to hand out the response to the case's request: the verdict on all bytes taken allows it by this rule
pub record IsLeave (load : Progress) (case : Case) (out : List (List ℕ)) (cleared : ClearedData) : Type 0 where
  pub request : cleared.request ≡ case.request
  pub verdict : verdict_so_far load case out ≡ Some (Allow cleared.rule)

-- before the head nothing was handed out, the wire has not ended, and the judge has judged all that is held
pub record IsJudging (load : Progress) (case : Case) (out : List (List ℕ)) : Type 0 where
  pub none_out : out ≡ []
  pub open_end : load.ended ≡ false
  pub judged : HasJudged load.judge case (bytes_of load.held.items) false

-- The load was begun for the case, goes on, and has handed out these pieces: before the head it judges, and afterwards it
-- keeps its leave.
pub record HasLoaded (load : Progress) (case : Case) (out : List (List ℕ)) : Type 0 where
  pub handed : load.handed ≡ length out
  pub before : load.cleared ≡ None → IsJudging load case out
  pub after : (cleared : ClearedData) → load.cleared ≡ Some cleared → IsLeave load case out cleared

-- nothing was taken and told so far
pub record IsFresh (load : Progress) : Type 0 where
  pub handed : load.handed ≡ 0
  pub held : load.held.items ≡ []
  pub cleared : load.cleared ≡ None
  pub open_end : load.ended ≡ false

-- The load's wire, where it tells its pieces: those taken and those left are all that it ever gives, and where it has
-- answered 0, none is left and it does not fail.
pub record IsWireOf (load : Progress) (out : List (List ℕ)) (left : Option (List (List ℕ))) (fails : Bool) (all : List (List ℕ)) : Type 0 where
  pub pieces : IfSome left (λ rest. taken load out ++ rest ≡ all)
  pub end : load.ended ≡ true → IsUsedUp left fails false

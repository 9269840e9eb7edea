-- Actions that are read one after another.
use Rattle.std.proofs.Common.{ℕ, ◌≤◌, List, [], length, arith}
use Rattle.std.specs.Prelude.{All}
use Rattle.std.proofs.lemmas.List.Elements.{All-nil, All-weaker}
use Rattle.script_model.specs.ActionLimits.{IsAction, IsActionAmong}
use Rattle.script_model.specs.declared.action.Action.{Action}
use Rattle.script_input.specs.ForProofs.{AreActions}

pub are_actions : (count : ℕ) (actions : List Action) → length actions ≤ 64 → All (λ action. IsAction action × IsActionAmong count action) actions → AreActions count actions
are_actions count actions few all = record {
  few = few;
  each = All-weaker (λ action. IsAction action × IsActionAmong count action) IsAction (λ action h. h.0) actions all;
  among = All-weaker (λ action. IsAction action × IsActionAmong count action) (IsActionAmong count) (λ action h. h.1) actions all;
}

pub no_actions : (count : ℕ) → AreActions count []
no_actions count = record { few = omega arith; each = All-nil IsAction; among = All-nil (IsActionAmong count) }

pub no_action : (count : ℕ) → All (λ action. IsAction action × IsActionAmong count action) []
no_action count = All-nil (λ action. IsAction action × IsActionAmong count action)

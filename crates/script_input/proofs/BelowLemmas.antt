-- What is read below a step of the path.
use Rattle.std.proofs.Common.{ℕ, List, Ok, Err, Result, sym, ap, subst, ⊎_elim}
use Rattle.script_input.specs.declared.refusal.ScriptStop.{ScriptStop}
use Rattle.script_input.specs.declared.refusal.ScriptStop.TheVariants.{Refused, NoMemory}
use Rattle.script_input.specs.Checked.{Checked, below}
use Rattle.script_input.specs.Answers.{GivesBy, Stops}
use Rattle.script_input.specs.ForProofs.{IsBehind, IsBelow}

stops_behind : {A : Type 0} (step : List ℕ) (s t : ScriptStop) (reading : Checked A) → IsBehind step s t → Stops s reading → Stops t (below step reading)
stops_behind step (Refused r) t reading is stops =
    ⊎_elim (λ none. subst (λ (x : ScriptStop). Stops x (below step reading)) (sym none) tt) (λ some. subst (λ (x : ScriptStop). Stops x (below step reading)) (sym some) (ap (below step) stops)) is
stops_behind step NoMemory t reading is stops = subst (λ (x : ScriptStop). Stops x (below step reading)) (sym is) tt

-- what is below a step gives what reading below it gives
pub below_gives : {X A : Type 0} (view : X → A) (step : List ℕ) (outcome result : Result X ScriptStop) (reading : Checked A) → IsBelow step outcome result → GivesBy view outcome reading → GivesBy view result (below step reading)
below_gives {X} {A} view step (Ok x) result reading is gives = subst (λ (r : Result X ScriptStop). GivesBy view r (below step reading)) (sym is) (ap (below step) gives)
below_gives {X} {A} view step (Err s) result reading is gives = subst (λ (r : Result X ScriptStop). GivesBy view r (below step reading)) (sym is.1) (stops_behind step s is.0 reading is.2 gives)

-- How the steps of a load are brought back. Own rules.
use Rattle.std.specs.Prelude.{◌≡◌, ◌++◌, ◌∷◌, [], Bool, List, false, true}
use Rattle.history_entry.specs.declared.entry.Entry.{Entry}
use Rattle.script_model.specs.ScriptData.{ScriptData}
use Rattle.service_rule.specs.Services.{ServiceRule}
use Rattle.history_steps.specs.MayFollow.{MayFollow}
use Rattle.history_steps.specs.Run.{Legal}
use Rattle.policy_table.specs.Histories.{StartsWith}
use Rattle.read_verdict.specs.declared.step.Step.{Step}
use Rattle.read_verdict.specs.declared.step.Step.TheVariants.{Held}
use Rattle.browser_tasks.specs.Outcomes.{IsEntryOf, goes_on}
use Rattle.browser_tasks.specs.declared.outcome.Outcome.{Outcome}

-- the step holds a piece back, and is not brought back itself
abbrev pub is_held : Step → Bool
is_held Held = true
is_held _ = false

-- an outcome that has more behind it was brought back by a worker that had seen so much, and its entry was added
pub record GoesOnBehind (rule : ServiceRule) (s : ScriptData) (outcome : Outcome) (seen after : List Entry) : Type 0 where
  pub found : List Entry
  pub begins : StartsWith found seen
  pub legal : Legal rule s found
  pub entry : Entry
  pub is_of : IsEntryOf s found outcome entry
  pub follows : MayFollow rule s found entry
  pub added : after ≡ found ++ entry ∷ []
  pub more : goes_on outcome ≡ true

-- Leave to hand out a response.
use Rattle.std.specs.Prelude.{ℕ}
use Rattle.history_entry.specs.declared.rule.Rule.{Rule}

-- the number of the request whose response is allowed, and the rule that allows it
pub record ClearedData : Type 0 where
  pub request : ℕ
  pub rule : Rule

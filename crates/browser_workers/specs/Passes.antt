-- What a worker's pass has come to see.
use Rattle.std.specs.Prelude.{◌≡◌}
use Rattle.history_entry.specs.declared.entry.Entry.{Entry}
use Rattle.policy_table.specs.Histories.{StartsWith}
use Rattle.policy_table.specs.Known.{Known}

-- the pass is of the same desk and has the same weight, and it has seen all that it had seen, and maybe more
pub record HasGoneOn (before after : Known Entry) : Type 0 where
  pub desk : after.desk ≡ before.desk
  pub weight : after.weight ≡ before.weight
  pub seen : StartsWith after.seen before.seen

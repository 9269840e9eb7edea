use Rattle.std.proofs.Common.{◌≡◌, ◌<◌, ◌+◌, ℕ, length, slice_index}
use Rattle.policy_table.specs.TableRule.{Shows}
use Rattle.policy_table.proofs.row_words.first_words.Given as goal

abbrev pub invariant-loop-process : goal.invariant-loop-process
invariant-loop-process g l = record {
  wide : length l.words.items ≡ l.process + 1;
  turn : slice_index l.words.items 0 ≡ 2;
  rows : (p : ℕ) → p < l.process → Shows (slice_index l.words.items (p + 1)) (g.O.Booked.standing (g.O.Booked.history l.core) p);
}

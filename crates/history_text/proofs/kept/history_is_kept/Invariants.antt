use Rattle.std.proofs.Common.{take}
use Rattle.history_entry.specs.declared.policy.Policy.TheVariants.{Two}
use Rattle.history_text.specs.Texts.{AreEntriesOf}
use Rattle.history_text.proofs.kept.history_is_kept.Given as goal

abbrev pub invariant-loop-entry : goal.invariant-loop-entry
invariant-loop-entry l = AreEntriesOf Two (take l.entry-index l.entry-items)

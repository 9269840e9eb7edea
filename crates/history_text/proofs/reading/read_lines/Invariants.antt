use Rattle.std.proofs.Common.{◌≡◌, ◌++◌, length}
use Rattle.history_entries.specs.Text.{lines_of}
use Rattle.history_text.specs.Texts.{AreEntriesOf}
use Rattle.history_text.proofs.reading.read_lines.Given as goal

abbrev pub invariant-loop-rest : goal.invariant-loop-rest
invariant-loop-rest l = record { entries : AreEntriesOf l.policy l.history; whole : lines_of l.history ++ l.rest ≡ l.lines }

abbrev pub decreases-loop-rest : goal.decreases-loop-rest
decreases-loop-rest l = length l.rest

use Rattle.std.proofs.Common.{take}
use Rattle.judgement_rows.proofs.Unasked.{IsUnasked}
use Rattle.judgement_rows.proofs.tests.moments.has_answers.Given as goal

abbrev pub invariant-loop-entry : goal.invariant-loop-entry
invariant-loop-entry l = IsUnasked (take l.entry-index l.entries)

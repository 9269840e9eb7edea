use Rattle.std.proofs.Common.{◌≡◌, drop}
use Rattle.std.specs.Prelude.{filter, slice_get}
use Rattle.history_rules.specs.Entries.{makes_navigation}
use Rattle.plain_facts.proofs.frames.navigation_maker_at.Given as goal

abbrev pub invariant-loop-entry : goal.invariant-loop-entry
invariant-loop-entry l = slice_get (filter makes_navigation (drop l.entry-index l.entries)) l.left ≡ slice_get (filter makes_navigation l.entries) l.fn.index

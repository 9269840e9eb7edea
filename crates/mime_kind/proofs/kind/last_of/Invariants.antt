use Rattle.std.proofs.Common.{◌≡◌, option_copied}
use Rattle.mime_kind.specs.Kinds.{last}
use Rattle.std.specs.List.{last_or}
use Rattle.mime_kind.proofs.kind.last_of.Given as goal

abbrev pub invariant-loop-value : goal.invariant-loop-value
invariant-loop-value l = last_or (option_copied l.last) l.value-iterator ≡ last l.fn.values

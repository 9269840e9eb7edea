use Rattle.std.proofs.Common.{◌≡◌}
use Rattle.std.specs.Prelude.{bytes_eq}
use Rattle.mime_kind.specs.JoinedValues.{joined_values}
use Rattle.mime_kind.proofs.Joining.{listed}
use Rattle.mime_kind.proofs.values.is_joined.Given as goal

abbrev pub invariant-loop-value : goal.invariant-loop-value
invariant-loop-value l = bytes_eq (listed l.separator l.value-iterator) l.rest ≡ bytes_eq (joined_values l.fn.values) l.fn.text

use Rattle.std.proofs.Common.{◌≡◌, ◌+◌, drop}
use Rattle.public_suffix.specs.Labels.{label_start}
use Rattle.public_suffix.proofs.labels.label_start.Given as goal

abbrev pub invariant-loop-index : goal.invariant-loop-index
invariant-loop-index l = l.index + label_start (drop l.index l.host) l.left ≡ label_start l.host l.count

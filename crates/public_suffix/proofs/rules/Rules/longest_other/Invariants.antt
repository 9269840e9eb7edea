use Rattle.std.proofs.Common.{◌≡◌, max}
use Rattle.std.specs.Str.{IsUtf8}
use Rattle.public_suffix.specs.Labels.{label_count}
use Rattle.public_suffix.specs.RegistrableDomain.{most_labels, matching_others}
use Rattle.public_suffix.proofs.rules.Rules.longest_other.Given as goal

abbrev pub invariant-loop-rest : goal.invariant-loop-rest
invariant-loop-rest l = record {
  same : max 1 (most_labels (matching_others l.self l.host)) ≡ max 1 (most_labels (matching_others l.self l.suffix));
  text : IsUtf8 l.suffix;
}

abbrev pub decreases-loop-rest : goal.decreases-loop-rest
decreases-loop-rest l = label_count l.suffix

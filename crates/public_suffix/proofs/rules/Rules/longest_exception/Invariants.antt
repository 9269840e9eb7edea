use Rattle.std.proofs.Common.{◌≡◌}
use Rattle.std.specs.Str.{IsUtf8}
use Rattle.public_suffix.specs.Labels.{label_count}
use Rattle.public_suffix.specs.RegistrableDomain.{most_labels, matching_exceptions}
use Rattle.public_suffix.proofs.rules.Rules.longest_exception.Given as goal

abbrev pub invariant-loop-rest : goal.invariant-loop-rest
invariant-loop-rest l = record {
  same : most_labels (matching_exceptions l.self l.host) ≡ most_labels (matching_exceptions l.self l.suffix);
  text : IsUtf8 l.suffix;
}

abbrev pub decreases-loop-rest : goal.decreases-loop-rest
decreases-loop-rest l = label_count l.suffix

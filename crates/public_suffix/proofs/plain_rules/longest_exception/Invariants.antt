use Rattle.std.proofs.Common.{◌≡◌, take}
use Rattle.public_suffix.specs.RegistrableDomain.{most_labels, matching_exceptions}
use Rattle.public_suffix.proofs.plain_rules.longest_exception.Given as goal

abbrev pub invariant-loop-rule : goal.invariant-loop-rule
invariant-loop-rule l = l.most ≡ most_labels (matching_exceptions (take l.rule-index l.rules) l.host)

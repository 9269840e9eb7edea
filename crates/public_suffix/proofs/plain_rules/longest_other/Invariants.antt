use Rattle.std.proofs.Common.{◌≡◌, take}
use Rattle.public_suffix.specs.RegistrableDomain.{most_labels, matching_others}
use Rattle.public_suffix.proofs.plain_rules.longest_other.Given as goal

abbrev pub invariant-loop-rule : goal.invariant-loop-rule
invariant-loop-rule l = l.longest ≡ most_labels (matching_others (take l.rule-index l.rules) l.host)

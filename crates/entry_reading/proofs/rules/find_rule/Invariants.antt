use Rattle.std.proofs.Common.{◌≡◌, drop}
use Rattle.std.specs.Prelude.{find}
use Rattle.entry_reading.specs.Fields.{has_code}
use Rattle.entry_reading.proofs.rules.find_rule.Given as goal

abbrev pub invariant-loop-rule : goal.invariant-loop-rule
invariant-loop-rule l = find (has_code l.text) (drop l.rule-index l.rules) ≡ find (has_code l.text) l.rules

use Rattle.std.proofs.Common.{take}
use Rattle.public_suffix.specs.IndexLayout.{IsIndexOf}
use Rattle.public_suffix.proofs.rule_index.RuleIndex.of.Given as goal

abbrev pub invariant-loop-rule : goal.invariant-loop-rule
invariant-loop-rule l = IsIndexOf l.index (take l.rule-index l.rules)

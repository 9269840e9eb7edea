use Rattle.std.proofs.Common.{◌≡◌, ◌-◌, ◌^◌, length, min, take}
use Rattle.public_suffix.specs.Reading.{lines, rules_on}
use Rattle.public_suffix.proofs.ReadingLemmas.{NoneBadBelow}
use Rattle.public_suffix.proofs.plain_rules.PlainRules.read.Given as goal

abbrev pub invariant-loop-line : goal.invariant-loop-line
invariant-loop-line l = record {
  rules : l.list.items ≡ rules_on (take (length l.yielded) (lines l.text));
  none_bad : NoneBadBelow (lines l.text) (length l.yielded);
  number : l.number ≡ min (length l.yielded) (2 ^ 32 - 1);
}

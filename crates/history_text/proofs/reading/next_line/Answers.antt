use Rattle.std.proofs.lemmas.Bool.{both_ways}
use Rattle.history_text.proofs.Lines.{other_rule}
use Rattle.history_text.proofs.reading.next_line.Goals as goal

pub returns-then-not-has_rule_of-clause-bad : goal.returns-then-not-has_rule_of-clause-bad
returns-then-not-has_rule_of-clause-bad c = λ _.
    other_rule c.args.policy c.args.text.now c.in_ok-entry.rest.now c.in_ok-entry.entry c.in_ok-entry.ensures.found.0 c.in_ok-entry.ensures.found.1 (λ has. both_ways c.has_rule_of.result c.if-not-has_rule_of.true (c.has_rule_of.ensures.1 has))

use Rattle.std.proofs.Common.{arith, rules}
use Rattle.script_input.proofs.ItemsLemmas.{no_pair}
use Rattle.script_input.proofs.header.pair_of.Goals as goal

pub returns-in-len1-clause-gives : goal.returns-in-len1-clause-gives
returns-in-len1-clause-gives c = rw (no_pair c.args.items.now (λ e. let less = c.in-len1.len_below in absurd (omega arith)), c.refused-in-len1.ensures) (search rules)

pub returns-in_default-clause-gives : goal.returns-in_default-clause-gives
returns-in_default-clause-gives c = rw (no_pair c.args.items.now (λ e. let more = c.in_default.len_at_least in absurd (omega arith)), c.refused-in_default.ensures) (search rules)

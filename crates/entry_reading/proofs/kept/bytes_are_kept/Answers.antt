use Rattle.std.proofs.Common.{arith}
use Rattle.entry_reading.proofs.kept.bytes_are_kept.Goals as goal

pub returns : goal.returns
returns c = λ i. let byte = c.type_inv._bytes i in omega arith

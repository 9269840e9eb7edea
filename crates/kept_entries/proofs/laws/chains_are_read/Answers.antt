use Rattle.kept_entries.proofs.NamedChains.{chains_are_read}
use Rattle.kept_entries.proofs.laws.chains_are_read.Goals as goal

pub returns : goal.returns
returns c = chains_are_read

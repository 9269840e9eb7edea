use Rattle.service_rule.specs.Store.{store_rule}
use Rattle.kept_entries.proofs.NamedChains.{chains_are_read}
use Rattle.kept_entries.proofs.StoreTexts.{store_answers_texts}
use Rattle.kept_entries.proofs.laws.script_chains_are_read.Goals as goal

pub returns : goal.returns
returns c = chains_are_read store_rule c.args.script.now store_answers_texts c.script_is_kept.ensures c.script_is_within_limits.ensures

use Rattle.url_keys.proofs.OwnTexts.{names_itself}
use Rattle.url_keys.proofs.laws.read_urls_name_themselves.Goals as goal

pub returns : goal.returns
returns c = names_itself

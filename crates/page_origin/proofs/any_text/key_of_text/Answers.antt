use Rattle.std.proofs.Common.{sym}
use Rattle.page_origin.proofs.PageUrlLemmas.{key_of-split}
use Rattle.page_origin.proofs.any_text.key_of_text.Goals as goal

pub returns-in-Some : goal.returns-in-Some
returns-in-Some c = sym (rw c.in-Some.is at (key_of-split c.args.text.now c.split_once.result c.split_once.ensures.cases))

pub returns-in-None : goal.returns-in-None
returns-in-None c = sym (rw c.in-None.is at (key_of-split c.args.text.now c.split_once.result c.split_once.ensures.cases))

use Rattle.std.proofs.Common.{lit<}
use Rattle.std.proofs.lemmas.Str.Pattern.{split_once_first}
use Rattle.service_rule.proofs.FirstPlace.{by_first_blank}
use Rattle.service_rule.proofs.request.around_blank.Goals as goal

pub returns : goal.returns
returns c = by_first_blank c.args.text.now c.split_once.result (split_once_first 32 c.args.text.now c.split_once.result c.split_once.ensures.cases (lit< tt))

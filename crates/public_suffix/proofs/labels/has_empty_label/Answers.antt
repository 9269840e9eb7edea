use Rattle.std.proofs.Common.{lit<, length, ◌==◌, rules}
use Rattle.std.proofs.lemmas.Iterator.Splits.{YieldsList-from_str_split}
use Rattle.std.proofs.lemmas.Iterator.Search.{any_from_yields_List}
use Rattle.public_suffix.proofs.labels.has_empty_label.Goals as goal

pub returns : goal.returns
returns c = any_from_yields_List (λ label. length label == 0) _ _ c.any.result c.any.ensures.ran (YieldsList-from_str_split 46 c.args.text.now (lit< tt) c.split.ensures.text c.split.ensures.has_more c.split.ensures.pattern) (λ x b q k. search rules)

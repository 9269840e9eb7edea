use Rattle.std.proofs.Common.{lit<, rules, ap, ◌∙◌}
use Rattle.std.specs.Iterator.Adapters.{enumerate_source}
use Rattle.std.specs.Str.Iter.{split_text, split_has_more, split_pattern}
use Rattle.std.proofs.lemmas.Iterator.Consumers.{YieldsList-from_enumerate}
use Rattle.std.proofs.lemmas.Iterator.Splits.{YieldsList-from_str_split}
use Rattle.std.proofs.lemmas.Iterator.Search.{all_from_yields_List}
use Rattle.public_suffix.proofs.word.has_rule_labels.Goals as goal

pub returns : goal.returns
returns c =
    let source = c.enumerate.ensures.source in
    let labels = YieldsList-from_str_split {s = enumerate_source c.enumerate.result} 46 c.args.text.now (lit< tt) (ap split_text source ∙ c.split.ensures.text) (ap split_has_more source ∙ c.split.ensures.has_more) (ap split_pattern source ∙ c.split.ensures.pattern) in
    all_from_yields_List {s = c.enumerate.result} _ c.all.new.self _ c.all.result c.all.ensures.ran (YieldsList-from_enumerate labels c.enumerate.ensures.count) (λ x b q k. search rules)

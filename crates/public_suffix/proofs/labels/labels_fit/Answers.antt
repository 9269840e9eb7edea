use Rattle.std.proofs.Common.{lit<, rules, ap, ◌∙◌}
use Rattle.std.specs.Iterator.Adapters.{skip_source, skip_count, zip_first, zip_second}
use Rattle.std.specs.Str.Iter.{split_text, split_has_more, split_pattern}
use Rattle.std.proofs.lemmas.Iterator.{YieldsList-from_zip}
use Rattle.std.proofs.lemmas.Iterator.Adapters.{YieldsList-from_skip}
use Rattle.std.proofs.lemmas.Iterator.Splits.{YieldsList-from_str_split}
use Rattle.std.proofs.lemmas.Iterator.Search.{all_from_yields_List}
use Rattle.public_suffix.specs.RegistrableDomain.{label_fits}
use Rattle.public_suffix.proofs.labels.labels_fit.Goals as goal

pub returns : goal.returns
returns c =
    let first = c.zip.ensures.first in
    let second = c.zip.ensures.second in
    let source = ap skip_source first ∙ c.skip.ensures.source in
    let host = YieldsList-from_str_split {s = skip_source (zip_first c.zip.result)} 46 c.args.host.now (lit< tt) (ap split_text source ∙ c.split.ensures.text) (ap split_has_more source ∙ c.split.ensures.has_more) (ap split_pattern source ∙ c.split.ensures.pattern) in
    let rule = YieldsList-from_str_split {s = zip_second c.zip.result} 46 c.args.rule.now (lit< tt) (ap split_text second ∙ c.split-2.ensures.text) (ap split_has_more second ∙ c.split-2.ensures.has_more) (ap split_pattern second ∙ c.split-2.ensures.pattern) in
    all_from_yields_List {s = c.zip.result} label_fits c.all.new.self _ c.all.result c.all.ensures.ran (YieldsList-from_zip {s = c.zip.result} (YieldsList-from_skip {s = zip_first c.zip.result} c.args.skip host (ap skip_count first ∙ c.skip.ensures.count)) rule) (λ x b q k. search rules)

use Rattle.std.proofs.Common.{sym, lit<, rules, None}
use Rattle.std.proofs.lemmas.Str.Pattern.{strip_prefix_char}
use Rattle.public_suffix.proofs.Words.{no_mark}
use Rattle.public_suffix.proofs.word.unmarked.Goals as goal

pub returns-in-None-clause-exception : goal.returns-in-None-clause-exception
returns-in-None-clause-exception c =
    let none = strip_prefix_char 33 c.args.word.now None c.in-None.ensures.cases (lit< tt) in
    sym (no_mark c.args.word.now none)

pub returns-in-None-clause-text : goal.returns-in-None-clause-text
returns-in-None-clause-text c =
    let none = strip_prefix_char 33 c.args.word.now None c.in-None.ensures.cases (lit< tt) in
    rw (no_mark c.args.word.now none) (search rules)

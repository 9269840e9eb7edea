use Rattle.std.proofs.Common.{◌∙◌}
use Rattle.entry_reading.proofs.FieldsBack.{parted, unparted}
use Rattle.entry_reading.proofs.fields.around.Goals as goal

pub returns-in-Some-clause-before : goal.returns-in-Some-clause-before
returns-in-Some-clause-before c =
    let found = c.in-Some.ensures in
    c.split_at.ensures.front ∙ (parted c.args.mark c.args.text.now c.in-Some.end found.0.high found.0.before found.1).0

pub returns-in-Some-clause-onwards : goal.returns-in-Some-clause-onwards
returns-in-Some-clause-onwards c =
    let found = c.in-Some.ensures in
    c.split_at.ensures.back ∙ (parted c.args.mark c.args.text.now c.in-Some.end found.0.high found.0.before found.1).1

pub returns-in-None-clause-before : goal.returns-in-None-clause-before
returns-in-None-clause-before c = (unparted c.args.mark c.args.text.now c.in-None.ensures).0

pub returns-in-None-clause-onwards : goal.returns-in-None-clause-onwards
returns-in-None-clause-onwards c = (unparted c.args.mark c.args.text.now c.in-None.ensures).1

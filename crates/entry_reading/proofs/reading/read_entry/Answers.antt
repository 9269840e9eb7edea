use Rattle.std.proofs.lemmas.Result.{err_from_is_err_and}
use Rattle.entry_reading.proofs.Answered.{entry_answered, entry_read, stopped_back, stopped_bad}
use Rattle.entry_reading.proofs.reading.read_entry.Goals as goal

pub returns-clause-read : goal.returns-clause-read
returns-clause-read c = entry_read c.args.line.now c.in_ok-entry.entry c.entry_is_kept.ensures c.in_ok-entry.ensures

pub returns-clause-back : goal.returns-clause-back
returns-clause-back c =
    entry_answered c.args.line.now c.in_ok-entry.entry (entry_read c.args.line.now c.in_ok-entry.entry c.entry_is_kept.ensures c.in_ok-entry.ensures)

pub returns-in_err-entry-clause-bad : goal.returns-in_err-entry-clause-bad
returns-in_err-entry-clause-bad c =
    let stop = err_from_is_err_and c.from_residual.result c.from_residual.ensures.1 in
    rw (stop.1, stop.2) (stopped_bad c.args.line.now c.in_err-entry.field-0.0 c.in_err-entry.ensures)

pub returns-in_err-entry-clause-back : goal.returns-in_err-entry-clause-back
returns-in_err-entry-clause-back c =
    let stop = err_from_is_err_and c.from_residual.result c.from_residual.ensures.1 in
    rw (stop.1, stop.2) (stopped_back c.args.line.now c.in_err-entry.field-0.0 c.in_err-entry.ensures)

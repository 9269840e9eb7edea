use Rattle.std.proofs.Common.{◌≡◌, Err, ap}
use Rattle.std.specs.Prelude.{Result}
use Rattle.std.proofs.lemmas.Result.{err_from_is_err_and}
use Rattle.entry_reading.specs.declared.stop.EntryStop.{EntryStop}
use Rattle.entry_reading.proofs.FirstLine.{bad_start, line_there, unfed}
use Rattle.entry_reading.proofs.reading.read_line.Goals as goal

abbrev stopped : (A : Type 0) → EntryStop → Result A EntryStop
stopped A stop = Err stop

same_stop : (A B : Type 0) (a b : EntryStop) → stopped A a ≡ stopped A b → stopped B a ≡ stopped B b
same_stop A B a b is = let same : a ≡ b = cc in ap (stopped B) same

pub returns-in_err-rest-clause-bad : goal.returns-in_err-rest-clause-bad
returns-in_err-rest-clause-bad c =
    let stop = err_from_is_err_and c.from_residual.result c.from_residual.ensures.1 in
    rw (stop.1, stop.2) (λ is.
    unfed c.args.text.now c.around.result.1.now c.in_err-rest.field-0.0 c.around.ensures.onwards c.in_err-rest.ensures (same_stop _ _ _ _ is))

pub returns-in_err-entry-clause-bad : goal.returns-in_err-entry-clause-bad
returns-in_err-entry-clause-bad c =
    let stop = err_from_is_err_and c.from_residual-in_err-entry.result c.from_residual-in_err-entry.ensures.1 in
    rw (stop.1, stop.2) (λ is.
    bad_start c.args.text.now c.around.result.0.now c.around.ensures.before (c.in_err-entry.ensures.bad (same_stop _ _ _ _ is)))

pub returns-clause-found : goal.returns-clause-found
returns-clause-found c = (
  c.in_ok-entry.ensures.read.0,
  line_there c.in_ok-entry.entry c.args.text.now c.around.result.0.now c.around.result.1.now c.in_ok-rest.rest.now c.around.ensures.before c.around.ensures.onwards c.in_ok-rest.ensures c.in_ok-entry.ensures.read.1,
)

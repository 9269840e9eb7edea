use Rattle.std.proofs.Common.{rules}
use Rattle.script_input.proofs.FieldNames.{no_field}
use Rattle.script_input.proofs.header.text_of.Goals as goal

pub returns-in-Err : goal.returns-in-Err
returns-in-Err c = rw (no_field c.args.bytes.now c.in-Err.ensures.cases.0, c.refused.ensures) (search rules)

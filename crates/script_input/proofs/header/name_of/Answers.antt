use Rattle.std.proofs.Common.{sym, rules}
use Rattle.http_header.specs.FieldName.{IsFieldName}
use Rattle.script_input.proofs.FieldNames.{name_refused, name_taken}
use Rattle.script_input.proofs.header.name_of.Goals as goal

pub returns-in-Ok : goal.returns-in-Ok
returns-in-Ok c =
    let bytes = c.as_bytes.ensures.value in
    let taken : ¬ (¬ (IsFieldName c.as_bytes.result.now)) = λ out. let refused = c.in-Ok.ensures.invalid.1 out in cc in
    let test = name_taken c.as_bytes.result.now taken in
    rw (sym bytes, test) (search rules)

pub returns-in-Err-Invalid : goal.returns-in-Err-Invalid
returns-in-Err-Invalid c =
    let bytes = c.as_bytes.ensures.value in
    let test = name_refused c.as_bytes.result.now (c.in-Err-Invalid.ensures.invalid.0 (cc c.in-Err-Invalid.field-0-is)) in
    rw (sym bytes, test, c.refused.ensures) (search rules)

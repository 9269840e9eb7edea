use Rattle.std.proofs.Common.{◌≡◌, true, false, length, ◌==◌, eq-eqb, subst, List, ℕ, arith, rules}
use Rattle.std.specs.Str.Lossy.{utf8_valid_len}
use Rattle.std.proofs.lemmas.Bool.{ne_eqb}
use Rattle.std.proofs.lemmas.Str.{utf8_valid_len-IsUtf8}
use Rattle.serde_json.specs.Read.{read}
use Rattle.script_input.specs.Answers.{Gives}
use Rattle.script_input.specs.ScriptReading.{json_of, script_of, script_of_value}
use Rattle.script_input.proofs.script.read_script.Goals as goal

pub returns-in-Ok : goal.returns-in-Ok
unfolding script_of json_of
returns-in-Ok c =
    let valid : (utf8_valid_len c.args.bytes.now == length c.args.bytes.now) ≡ true = eq-eqb _ _ (utf8_valid_len-IsUtf8 c.args.bytes.now c.in-Ok.ensures.cases.1) in
    rw valid (subst (λ (t : List ℕ). Gives c.text_script.result (script_of_value (read t))) c.in-Ok.ensures.cases.0 c.text_script.ensures)

pub returns-in-Err : goal.returns-in-Err
unfolding script_of json_of
returns-in-Err c =
    let cut : (utf8_valid_len c.args.bytes.now == length c.args.bytes.now) ≡ false = ne_eqb _ _ (λ same. let short = c.in-Err.ensures.cases.1.short in let len = c.in-Err.ensures.valid_len in absurd (omega (arith, same, short, len))) in
    rw (cut, c.refused.ensures) (search rules)

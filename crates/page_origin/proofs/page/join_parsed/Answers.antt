use Rattle.std.proofs.Common.{Some, inr}
use Rattle.page_origin.proofs.PageUrlLemmas.{join_parses_again, read_long, read_refused, read_admitted}
use Rattle.page_origin.proofs.page.join_parsed.Goals as goal

pub returns-then-text-gt-MAX_LENGTH : goal.returns-then-text-gt-MAX_LENGTH
returns-then-text-gt-MAX_LENGTH c = inr (read_long _ c.args.text.now c.if-text-gt-MAX_LENGTH.true)

pub admit-requires : goal.admit-requires
admit-requires c = join_parses_again c.args.base.now c.in-Ok.url c.args.text.now c.as_str-valid_base.ensures.valid c.requires c.as_str-valid.ensures.valid c.in-Ok.ensures

pub returns-in-Ok : goal.returns-in-Ok
returns-in-Ok c = read_admitted (Some c.args.base.now) c.args.text.now c.in-Ok.url c.admit.result c.if-text-gt-MAX_LENGTH.false c.in-Ok.ensures c.admit.ensures

pub returns-in-Err : goal.returns-in-Err
returns-in-Err c = rw c.refusal.ensures (read_refused (Some c.args.base.now) c.args.text.now c.in-Err.error c.if-text-gt-MAX_LENGTH.false c.in-Err.ensures)

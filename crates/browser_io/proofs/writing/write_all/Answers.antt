use Rattle.std.proofs.Common.{◌∙◌, arith, rules}
use Rattle.browser_io.proofs.Moves.{Appends-take}
use Rattle.browser_io.proofs.writing.write_all.Goals as goal

pub writes-preserved : goal.writes-preserved
writes-preserved g c = record {
  within = omega (arith, c.in-Ok.ensures.bound, c.split_at.ensures.back_len);
  gained = Appends-take _ _ _ _ _ _ _ c.writes.invariant.gained c.split_at.ensures.back c.in-Ok.ensures.bytes;
  untouched = λ none. absurd (omega (arith, c.in-Ok.ensures.some, none));
  calm = c.in-Ok.ensures.calm ∙ c.writes.invariant.calm;
  telling = search (rules, c.in-Ok.ensures.telling, c.writes.invariant.telling);
}

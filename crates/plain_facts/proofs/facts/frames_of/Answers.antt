use Rattle.std.proofs.Common.{ap, ◌∙◌, ◌+◌, ◌++◌, arith}
use Rattle.std.specs.Int.{from_bool}
use Rattle.std.specs.Option.{option_to_list}
use Rattle.plain_facts.proofs.KeptFrames.{frames_at_start, frames_made_step, frames_step, one_at_most}
use Rattle.plain_facts.proofs.facts.frames_of.Goals as goal

pub loop-entry-init : goal.loop-entry-init
loop-entry-init c = record {
  made = omega (arith, c.start_count-made.ensures.count);
  few = omega (arith, c.start_count-made.ensures.count, c.start_count-made.ensures.few);
  found = c.in_ok-found.ensures ∙ frames_at_start c.args.script.now;
}

pub loop-entry-preserved : goal.loop-entry-preserved
loop-entry-preserved c = record {
  made =
      ap (λ n. c.loop-entry.made + n) c.from-made.ensures
      ∙ ap (λ b. c.loop-entry.made + from_bool b) c.makes_frame.ensures
      ∙ frames_made_step c.args.script.now c.args.entries.now c.loop-entry.entry-index c.loop-entry.made c.entry-item.result c.loop-entry-test.true c.entry-item.is c.loop-entry.invariant.made;
  few = omega (arith, c.from-made.ensures, one_at_most c.makes_frame.result, c.loop-entry.invariant.few);
  found =
      c.in_ok-push_begun.ensures ∙ ap (λ o. c.loop-entry.found.items ++ option_to_list o) c.begun_frame.ensures
      ∙ frames_step c.args.script.now c.args.entries.now c.loop-entry.entry-index c.loop-entry.made c.entry-item.result c.loop-entry.found.items c.loop-entry-test.true c.entry-item.is c.loop-entry.invariant.made c.loop-entry.invariant.found;
}

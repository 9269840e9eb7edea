use Rattle.std.proofs.Common.{ap, ◌∙◌, sym, [], ◌∷◌, ◌++◌}
use Rattle.plain_facts.proofs.Counts.{range_more}
use Rattle.plain_facts.proofs.facts.start_frames.Goals as goal

pub loop-page-preserved : goal.loop-page-preserved
loop-page-preserved c = c.in_ok-push.ensures.items ∙ ap (λ xs. xs ++ c.loop-page.page ∷ []) c.loop-page.invariant ∙ sym (range_more c.loop-page.page)

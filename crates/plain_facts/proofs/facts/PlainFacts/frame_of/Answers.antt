use Rattle.std.proofs.Common.{ap, ◌∙◌}
use Rattle.std.specs.Prelude.{slice_get, unwrap_or}
use Rattle.history_rules.specs.Frames.{frame_of}
use Rattle.plain_facts.proofs.KeptFrames.{kept_frame}
use Rattle.plain_facts.proofs.facts.PlainFacts.frame_of.Goals as goal

pub returns : goal.returns
returns c =
    c.frame_at.ensures ∙ ap (λ xs. unwrap_or (slice_get xs c.args.navigation) 0) (c.as_slice.ensures.value ∙ c.self.invariant)
    ∙ kept_frame c.self.inside.script.now c.self.inside.entries.now c.args.navigation
    ∙ ap (λ v. frame_of v.script v.entries c.args.navigation) c.self.view_is

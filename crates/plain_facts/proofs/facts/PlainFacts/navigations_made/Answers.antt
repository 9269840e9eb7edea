use Rattle.std.proofs.Common.{ap, ◌∙◌, length}
use Rattle.history_rules.specs.Frames.{navigations_made}
use Rattle.plain_facts.proofs.KeptFrames.{kept_count}
use Rattle.plain_facts.proofs.facts.PlainFacts.navigations_made.Goals as goal

pub returns : goal.returns
returns c =
    c.len.ensures ∙ c.self.inside.frames.ok.0 ∙ ap length c.self.invariant ∙ kept_count c.self.inside.script.now c.self.inside.entries.now
    ∙ ap (λ v. navigations_made v.script v.entries) c.self.view_is

use Rattle.browser_core.proofs.Filling.{settles_stale}
use Rattle.browser_core.proofs.facts.settling.outcome_entry.Goals as goal

pub returns-in_ok-place-in-None-clause-settles : goal.returns-in_ok-place-in-None-clause-settles
returns-in_ok-place-in-None-clause-settles g c =
    settles_stale g.V.Service.rule c.args.script.now c.args.entries.now c.args.outcome.now _ c.in_ok-place-in-None.place c.requires.kept.is_legal
    c.in_ok-candidate.ensures.answers c.in-None.is c.in_ok-place-in-None.ensures

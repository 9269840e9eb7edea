use Rattle.std.proofs.Common.{subst}
use Rattle.browser_tasks.specs.Candidates.{IsQuietCandidate}
use Rattle.browser_core.proofs.Accepting.{quiet_kept}
use Rattle.browser_core.proofs.facts.settling.entry_of_candidate.Goals as goal

pub returns-in-Entry-clause-kept : goal.returns-in-Entry-clause-kept
returns-in-Entry-clause-kept g c =
    quiet_kept (g.V.Service.kept c.args.services.now) c.args.facts.now.entries c.in-Entry.entry
    (subst IsQuietCandidate c.in-Entry.is c.requires.quiet) c.requires.kept.keeps

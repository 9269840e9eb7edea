use Rattle.std.proofs.Common.{◌++◌, ◌∷◌, [], subst, sym}
use Rattle.history_entry.specs.declared.entry.Entry.{Entry}
use Rattle.call_answers.specs.declared.memory.NoMemory.{NoMemory}
use Rattle.browser_core.specs.Cores.{KeepAllAccepted}
use Rattle.browser_core.proofs.Accepting.{has_room, said_kept}
use Rattle.browser_core.proofs.Orderly.{orderly}
use Rattle.browser_core.proofs.facts.settling.judged.Goals as goal

pub of-facts-requires : goal.of-facts-requires
of-facts-requires g c =
    orderly g.V.Service.rule c.args.facts.now.script c.args.facts.now.entries c.requires.kept.is_legal c.requires.limits.few_pages

pub judge-requires-clause-room : goal.judge-requires-clause-room
judge-requires-clause-room g c =
    has_room g.V.Service.rule (g.V.Service.kept c.args.services.now) c.args.facts.now.script c.args.facts.now.entries c.args.saying.message.body
    c.requires.limits c.requires.kept

pub returns-clause-kept : goal.returns-clause-kept
returns-clause-kept g c =
    subst (λ (e : Entry). KeepAllAccepted (g.V.Service.kept c.judge.new.services) (c.args.facts.now.entries ++ e ∷ [])) (sym c.answered.ensures)
    (said_kept NoMemory (g.V.Service.kept c.args.services.now) (g.V.Service.kept c.judge.new.services) c.args.facts.now.entries
    c.args.saying.place.process c.args.saying.place.document c.args.saying.place.action c.args.saying.message c.in_ok-reply.reply
    c.requires.kept.keeps c.in_ok-reply.ensures.kept)

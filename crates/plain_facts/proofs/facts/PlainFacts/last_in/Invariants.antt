use Rattle.std.proofs.Common.{◌≡◌, take}
use Rattle.std.specs.Option.{option_map}
use Rattle.history_rules.specs.Entries.{last_match}
use Rattle.history_rules.specs.Documents.{commit_at}
use Rattle.entry_facts.specs.Views.{commit_view}
use Rattle.plain_facts.proofs.facts.PlainFacts.last_in.Given as goal

abbrev pub invariant-loop-entry : goal.invariant-loop-entry
invariant-loop-entry l = option_map commit_view l.last ≡ last_match (commit_at l.self.script l.self.entries l.frame) (take l.entry-index l.entries)

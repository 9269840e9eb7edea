use Rattle.std.proofs.Common.{◌≡◌, ◌≤◌, ◌+◌, take}
use Rattle.std.specs.Prelude.{map}
use Rattle.history_rules.specs.Documents.{documents}
use Rattle.history_rules.specs.Frames.{frame_of, frames_made}
use Rattle.script_model.specs.declared.limits.TheConstants.{MAX_START_PAGES}
use Rattle.plain_facts.proofs.facts.frames_of.Given as goal

abbrev pub invariant-loop-entry : goal.invariant-loop-entry
invariant-loop-entry l = record {
  made : l.made ≡ frames_made l.script (take l.entry-index l.entries);
  few : l.made ≤ MAX_START_PAGES + l.entry-index;
  found : l.found.items ≡ map (frame_of l.script (take l.entry-index l.entries)) (documents l.script (take l.entry-index l.entries));
}

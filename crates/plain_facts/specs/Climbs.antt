-- Walks from a frame upwards, as far as they are left.
use Rattle.std.specs.Prelude.{[], List, None, Option, Some, suc, ℕ}
use Rattle.history_entry.specs.declared.entry.Entry.{Entry}
use Rattle.script_model.specs.ScriptData.{ScriptData}
use Rattle.history_rules.specs.Frames.{lineage_within, makers_within}
use Rattle.plain_facts.specs.declared.climb.Climb.{Climb}

-- a frame and its ancestors, where a walk goes on there
abbrev pub lineage_from : ScriptData → List Entry → Option Climb → List ℕ
lineage_from s h None = []
lineage_from s h (Some climb) = lineage_within s h (suc climb.left) climb.frame

-- a frame and those whose documents made it, where a walk goes on there
abbrev pub makers_from : ScriptData → List Entry → Option Climb → List ℕ
makers_from s h None = []
makers_from s h (Some climb) = makers_within s h (suc climb.left) climb.frame

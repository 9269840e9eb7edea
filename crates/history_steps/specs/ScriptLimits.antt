-- The limits of a script that bound its histories: every script keeps them. Own format.
use Rattle.std.specs.Prelude.{◌≤◌, All, length}
use Rattle.script_model.specs.ResourceData.{ResourceData}
use Rattle.script_model.specs.ScriptData.{ScriptData, starts}
use Rattle.script_model.specs.declared.limits.TheConstants.{MAX_ACTIONS, MAX_CUTS, MAX_START_PAGES}

-- at most 64 actions, and cuts for at most 64 pieces
pub record IsShortResource (r : ResourceData) : Type 0 where
  pub few_actions : length r.actions ≤ MAX_ACTIONS
  pub few_cuts : length r.cuts ≤ MAX_CUTS

-- at most 64 start pages, and each resource is short
pub record IsWithinLimits (s : ScriptData) : Type 0 where
  pub few_pages : starts s ≤ MAX_START_PAGES
  pub resources : All IsShortResource s.resources

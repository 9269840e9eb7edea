-- The list of next entries in three parts.
use Rattle.std.specs.Prelude.{◌++◌, List}
use Rattle.std.specs.Option.{option_to_list}
use Rattle.history_entry.specs.declared.entry.Entry.{Entry}
use Rattle.service_rule.specs.Services.{ServiceRule}
use Rattle.script_model.specs.ScriptData.{ScriptData}
use Rattle.history_steps.specs.MayFollow.{open_next, warm_next}
use Rattle.history_steps.specs.Nexts.{crash_nexts, end_navigation_nexts, end_nexts, exit_nexts, head_nexts, hop_nexts, local_nexts, order_nexts, piece_nexts, said_nexts}

-- what stands before the commits
abbrev pub before_commits : ServiceRule → ScriptData → List Entry → List Entry
before_commits rule s h = option_to_list (open_next s h) ++ option_to_list (warm_next s h) ++ hop_nexts s h ++ order_nexts s h
    ++ end_navigation_nexts s h ++ said_nexts rule s h ++ crash_nexts s h

-- what stands behind them
abbrev pub behind_commits : ScriptData → List Entry → List Entry
behind_commits s h = local_nexts s h ++ head_nexts s h ++ piece_nexts s h ++ end_nexts s h ++ exit_nexts s h

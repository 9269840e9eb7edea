-- The first candidate of a history, in the order of the next entries. Own rules.
use Rattle.std.specs.Prelude.{◌++◌, List, Option, filter_map, option_map, slice_get}
use Rattle.std.specs.Option.{option_or, option_to_list}
use Rattle.history_entry.specs.declared.entry.Entry.{Entry}
use Rattle.script_model.specs.ScriptData.{ScriptData}
use Rattle.history_rules.specs.Documents.{documents}
use Rattle.history_steps.specs.MayFollow.{open_next, warm_next}
use Rattle.history_steps.specs.Nexts.{commit_nexts, crash_nexts, end_navigation_nexts, end_nexts, exit_nexts, head_nexts, hop_nexts, local_nexts, order_nexts, piece_nexts}
use Rattle.history.specs.Sayings.{saying_next}
use Rattle.history.specs.declared.documents.Saying.{Saying}
use Rattle.browser_tasks.specs.declared.candidate.Candidate.{Candidate}
use Rattle.browser_tasks.specs.declared.candidate.Candidate.TheVariants.{Entry as Ready, Saying as Asks}

-- the next entries before those of messages
unfoldable pub before_messages : ScriptData → List Entry → List Entry
before_messages s h = option_to_list (open_next s h) ++ option_to_list (warm_next s h) ++ hop_nexts s h ++ order_nexts s h
    ++ end_navigation_nexts s h

-- what the current documents say next, by document
unfoldable pub sayings : ScriptData → List Entry → List Saying
sayings s h = filter_map (saying_next s h) (documents s h)

-- the next entries of requests that have their response
unfoldable pub deliveries : ScriptData → List Entry → List Entry
deliveries s h = head_nexts s h ++ piece_nexts s h ++ end_nexts s h

-- the next entries behind those of messages
unfoldable pub behind_messages : ScriptData → List Entry → List Entry
behind_messages s h = crash_nexts s h ++ commit_nexts s h ++ local_nexts s h ++ deliveries s h ++ exit_nexts s h

-- the first of all of these
unfoldable pub first_candidate : ScriptData → List Entry → Option Candidate
first_candidate s h = option_or (option_map Ready (slice_get (before_messages s h) 0))
    (option_or (option_map Asks (slice_get (sayings s h) 0)) (option_map Ready (slice_get (behind_messages s h) 0)))

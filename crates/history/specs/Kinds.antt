-- The lists of next entries that go by the numbers of their objects, in one word, but for that of the messages.
use Rattle.std.specs.Prelude.{List, Option, ℕ}
use Rattle.history_entry.specs.declared.entry.Entry.{Entry}
use Rattle.script_model.specs.ScriptData.{ScriptData}
use Rattle.history_steps.specs.Deliveries.{end_next, head_next, piece_next, request_hop}
use Rattle.history_steps.specs.MayFollow.{crash_next, end_navigation_next, exit_next, local_next, navigation_hop, order_next}
use Rattle.history_steps.specs.Nexts.{commit_in_process}
use Rattle.history.specs.declared.kinds.Listed.{Listed}
use Rattle.history.specs.declared.kinds.Listed.TheVariants.{NavigationHops, Orders, NavigationEnds, CommitsIn, Locals, RequestHops, Heads, Pieces, Ends, Crashes, Exits}

-- the entry that a list has of an object
abbrev pub next_by : ScriptData → List Entry → Listed → ℕ → Option Entry
next_by s h NavigationHops = navigation_hop s h
next_by s h Orders = order_next s h
next_by s h NavigationEnds = end_navigation_next s h
next_by s h (CommitsIn process) = commit_in_process s h process
next_by s h Locals = local_next s h
next_by s h RequestHops = request_hop s h
next_by s h Heads = head_next s h
next_by s h Pieces = piece_next s h
next_by s h Ends = end_next s h
next_by s h Crashes = crash_next s h
next_by s h Exits = exit_next s h

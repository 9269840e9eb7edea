-- Whether the process of the document of a request is dead, as a test. Own rules.
use Rattle.std.specs.Prelude.{◌||◌, Bool, List, false, length, option_and_then, take, ℕ}
use Rattle.std.specs.List.{list_any, range_with_len}
use Rattle.std.specs.Option.{option_map_or}
use Rattle.history_entry.specs.declared.entry.Entry.{Entry}
use Rattle.history_rules.specs.Documents.{process_of}
use Rattle.history_rules.specs.Processes.{is_dead}
use Rattle.history_rules.specs.Requests.{request_document}

-- it is dead
unfoldable pub host_dead : List Entry → ℕ → Bool
host_dead h r = option_map_or (is_dead h) (option_and_then (process_of h) (request_document h r)) false

-- it was dead after some of the entries
unfoldable pub was_host_dead : List Entry → ℕ → Bool
was_host_dead h r = list_any (λ i. host_dead (take i h) r) (range_with_len 0 (length h)) || host_dead h r

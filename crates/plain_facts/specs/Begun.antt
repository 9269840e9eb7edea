-- The navigation that an entry begins.
use Rattle.std.specs.Prelude.{if◌then◌else◌, None, Option, Some, option_and_then, ℕ}
use Rattle.history_entry.specs.declared.entry.Entry.{Entry}
use Rattle.history_rules.specs.Entries.{accepted, body_makes_navigation}
use Rattle.history_rules.specs.Frames.{body_frame}

-- the frame of the navigation that an entry begins, where a frame that it makes would have this number
abbrev pub begun_frame : ℕ → Entry → Option ℕ
begun_frame made e = option_and_then (λ m. if body_makes_navigation m.body then Some (body_frame made m.body) else None) (accepted e)

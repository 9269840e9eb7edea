-- The rule that an entry carries: that of its reply, its verdict or its end.
use Rattle.std.specs.Prelude.{Option, Some, None}
use Rattle.history_entry.specs.declared.rule.Rule.{Rule}
use Rattle.history_entry.specs.declared.reply.Reply.{Reply}
use Rattle.history_entry.specs.declared.reply.Reply.TheVariants as replies
use Rattle.history_entry.specs.declared.entry.EndHow.{EndHow}
use Rattle.history_entry.specs.declared.entry.EndHow.TheVariants.{Whole, Blocked, Failed}
use Rattle.history_entry.specs.declared.entry.Entry.{Entry}
use Rattle.history_entry.specs.declared.entry.Entry.TheVariants.{NavEnd, Said, Commit, Head, End}

-- the rule by which a message was denied, dropped or killed its sender
abbrev pub reply_rule : Reply → Option Rule
reply_rule replies.Ok = None
reply_rule (replies.Answer text) = None
reply_rule (replies.Deny rule) = Some rule
reply_rule (replies.Drop rule) = Some rule
reply_rule (replies.Kill rule) = Some rule

-- the rule by which a request was blocked or failed
abbrev pub end_rule : EndHow → Option Rule
end_rule Whole = None
end_rule (Blocked rule) = Some rule
end_rule (Failed rule) = Some rule

-- the rule that an entry carries, if it does
abbrev pub carried_rule : Entry → Option Rule
carried_rule (NavEnd n rule) = Some rule
carried_rule (Said p d k message reply) = reply_rule reply
carried_rule (Commit p n origin url reply) = reply_rule reply
carried_rule (Head r rule) = Some rule
carried_rule (End r how) = end_rule how
carried_rule entry = None

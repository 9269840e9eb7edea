-- What may follow, before services are asked: an entry, or a message whose reply is still to be found. Own rules.
use Rattle.std.specs.Prelude.{◌≡◌, Bool, IfSome, List, Option, false, true}
use Rattle.history_entry.specs.declared.entry.Entry.{Entry}
use Rattle.history_entry.specs.declared.entry.Entry.TheVariants.{Said}
use Rattle.service_rule.specs.Services.{ServiceRule}
use Rattle.script_model.specs.ScriptData.{ScriptData}
use Rattle.history.specs.Sayings.{judged}
use Rattle.browser_tasks.specs.declared.candidate.Candidate.{Candidate}
use Rattle.browser_tasks.specs.declared.candidate.Candidate.TheVariants.{Entry as Ready, Saying as Asks}

-- the entry is that of a message
abbrev pub is_said : Entry → Bool
is_said (Said p d k message reply) = true
is_said _ = false

-- an entry that is no message, if there is one
abbrev pub IsQuiet : Option Entry → Type 0
IsQuiet first = IfSome first (λ e. is_said e ≡ false)

-- a candidate that is a message, or an entry that is none
abbrev pub IsQuietCandidate : Candidate → Type 0
IsQuietCandidate (Ready e) = is_said e ≡ false
IsQuietCandidate (Asks saying) = Unit {0}

-- the entry that a candidate becomes
abbrev pub entry_of : ServiceRule → ScriptData → List Entry → Candidate → Entry
entry_of rule s h (Ready e) = e
entry_of rule s h (Asks saying) = judged rule s h saying

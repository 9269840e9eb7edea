-- What the steps of an audit answer.
use Rattle.std.specs.Prelude.{◌≡◌, List}
use Rattle.history_entry.specs.declared.entry.Entry.{Entry}
use Rattle.script_model.specs.ScriptData.{ScriptData}
use Rattle.service_rule.specs.Services.{ServiceRule}
use Rattle.history_steps.specs.Run.{Legal}
use Rattle.audit_run.specs.Audits.{IsFirstIllegal}
use Rattle.audit_run.specs.declared.auditing.Followed.{Followed}
use Rattle.audit_run.specs.declared.auditing.Followed.TheVariants.{UpTo, Whole}

-- how far the entries follow one another: all of them, as a history, or up to the first that may not
abbrev pub IsFollowed : ServiceRule → ScriptData → List Entry → Followed → Type 0
IsFollowed rule s entries (Whole h) = (h ≡ entries) × Legal rule s h
IsFollowed rule s entries (UpTo i) = IsFirstIllegal rule s entries i

-- What each command makes of its input: the status with which it ends where all is written, what it writes, and what it refuses.
use Rattle.std.specs.Prelude.{◌≡◌, ◌⊎◌, Err, List, None, Ok, Option, Some, ℕ}
use Rattle.history_entry.specs.declared.entry.Entry.{Entry}
use Rattle.history_entry.specs.declared.policy.Policy.TheVariants.{Two}
use Rattle.script_model.specs.ScriptData.{ScriptData}
use Rattle.history_steps.specs.Run.{IsRun}
use Rattle.history_entries.specs.Text.{text_of}
use Rattle.audit_run.specs.Audits.{IsAudit}
use Rattle.audit_run.specs.AuditLines.{line_of_audit}
use Rattle.audit_run.specs.declared.answer.Audit.{Audit as AuditData}
use Rattle.audit_run.specs.declared.answer.Audit.TheVariants as audits
use Rattle.script_gen.specs.Generated.{generated}
use Rattle.script_gen.specs.Summaries.{summary_text}
use Rattle.script_input.specs.ScriptReading.{script_of}
use Rattle.script_input.specs.declared.refusal.Refusal.{Refusal}
use Rattle.service_rule.specs.Store.{store_rule}
use Rattle.browser_cli.specs.Commands.{HasNoFrame, IsFramed, bad_framing}
use Rattle.browser_cli.specs.Headline.{IsTextOfHistory}
use Rattle.browser_cli.specs.declared.command.Command.{Command}
use Rattle.browser_cli.specs.declared.command.Command.TheVariants.{Audit, Gen, One, Run}
use Rattle.browser_cli.specs.declared.status.Finding.{Finding}
use Rattle.browser_cli.specs.declared.status.Finding.TheVariants as findings
use Rattle.browser_cli.specs.declared.status.Status.{Status}
use Rattle.browser_cli.specs.declared.status.Status.TheVariants.{Illegal, Ran}

-- `one`: the input is a script, and the output is the text, of version two, of its one-thread run with the service `store`
pub record IsRunText (input output : List ℕ) : Type 0 where
  pub script : ScriptData
  pub is_script : script_of input ≡ Ok script
  pub history : List Entry
  pub is_run : IsRun store_rule script history
  pub is_text : output ≡ text_of Two history

-- the status that an audit ends with: what it finds is told where the text is not that of a finished legal history
abbrev pub status_of_audit : AuditData → Status
status_of_audit (audits.Legal count) = Ran
status_of_audit (audits.BadLine line) = Illegal (findings.BadLine line)
status_of_audit (audits.Entry line) = Illegal (findings.Entry line)
status_of_audit (audits.Unfinished kind) = Illegal (findings.Unfinished kind)

-- the status of a command that wrote its whole output, by what it found of the text
abbrev pub status_of_finding : Option Finding → Status
status_of_finding None = Ran
status_of_finding (Some finding) = Illegal finding

-- status and output tell what the audit of a text answers for the script that is read from another
pub record IsAuditOf (script_text text : List ℕ) (status : Status) (output : List ℕ) : Type 0 where
  pub script : ScriptData
  pub is_script : script_of script_text ≡ Ok script
  pub audit : AuditData
  pub is_audit : IsAudit store_rule script text audit
  pub is_status : status ≡ status_of_audit audit
  pub is_line : output ≡ line_of_audit audit

-- `audit`: the input has a frame, and status and output are those of the script and the text in it
pub record IsAuditAnswer (input : List ℕ) (status : Status) (output : List ℕ) : Type 0 where
  pub script_text : List ℕ
  pub text : List ℕ
  pub is_framed : IsFramed input script_text text
  pub is_audit : IsAuditOf script_text text status output

-- the output is the summary of the one-thread run of a script
pub record IsSummaryOf (script : ScriptData) (output : List ℕ) : Type 0 where
  pub history : List Entry
  pub is_run : IsRun store_rule script history
  pub is_text : output ≡ summary_text history

-- `run`: the input is a script, and the output is the text of one of its finished legal histories
pub record IsWorkersText (input output : List ℕ) : Type 0 where
  pub script : ScriptData
  pub is_script : script_of input ≡ Ok script
  pub history : List Entry
  pub is_text : IsTextOfHistory script output history

-- a command's status and output for an input that it doesn't refuse
abbrev pub IsAnswer : Command → List ℕ → Status → List ℕ → Type 0
IsAnswer One input status output = (status ≡ Ran) × IsRunText input output
IsAnswer Audit input status output = IsAuditAnswer input status output
IsAnswer (Gen number) input status output = (status ≡ Ran) × IsSummaryOf (generated number) output
IsAnswer (Run count) input status output = (status ≡ Ran) × IsWorkersText input output

-- the input has a frame, and what stands in it is refused as a script
pub record IsFramedRefusal (input : List ℕ) (refusal : Refusal) : Type 0 where
  pub script_text : List ℕ
  pub text : List ℕ
  pub is_framed : IsFramed input script_text text
  pub is_refused : script_of script_text ≡ Err refusal

-- an input without a frame is refused by X8
abbrev pub IsFrameRefusal : List ℕ → Refusal → Type 0
IsFrameRefusal input refusal = HasNoFrame input × (refusal ≡ bad_framing)

-- a command's refusal of an input: of a script its first, and of `audit` that of the frame before it
abbrev pub IsRefusal : Command → List ℕ → Refusal → Type 0
IsRefusal One input refusal = script_of input ≡ Err refusal
IsRefusal Audit input refusal = IsFrameRefusal input refusal ⊎ IsFramedRefusal input refusal
IsRefusal (Gen number) input refusal = ⊥
IsRefusal (Run count) input refusal = script_of input ≡ Err refusal

-- The headline: what `run N` writes is the text of one finished legal history of its script. A history may be in whatever order its
-- workers took their turns. What such a history keeps is said by the clauses of `browse`, in the words of `history_laws`.
use Rattle.std.specs.Prelude.{◌≡◌, ◌++◌, ⊤, IfSome, List, Ok, Option, Some, ℕ}
use Rattle.history_entry.specs.declared.entry.Entry.{Entry}
use Rattle.history_entry.specs.declared.policy.Policy.TheVariants.{Two}
use Rattle.script_model.specs.ScriptData.{ScriptData}
use Rattle.history_steps.specs.Run.{Finished, Legal}
use Rattle.history_entries.specs.Text.{text_of}
use Rattle.script_input.specs.ScriptReading.{script_of}
use Rattle.service_rule.specs.Store.{store_rule}
use Rattle.browser_cli.specs.declared.command.Command.{Command}
use Rattle.browser_cli.specs.declared.command.Command.TheVariants.{Audit, Gen, One, Run}

-- the text, of version two, is that of the history. The history is legal for the script with the service `store`, and finished; and no
-- other legal history of the script has this text, so the bytes fix it
pub record IsTextOfHistory (script : ScriptData) (text : List ℕ) (history : List Entry) : Type 0 where
  pub legal : Legal store_rule script history
  pub finished : Finished store_rule script history
  pub is_text : text ≡ text_of Two history
  pub only : (other : List Entry) → Legal store_rule script other → text ≡ text_of Two other → other ≡ history

-- the input is a script, the bytes grew by the text of one finished legal history of it, and P holds of this script and this history
pub record HasWritten (input before : List ℕ) (now : Option (List ℕ)) (P : ScriptData → List Entry → Type 0) : Type 0 where
  pub script : ScriptData
  pub is_script : script_of input ≡ Ok script
  pub text : List ℕ
  pub gained : now ≡ Some (before ++ text)
  pub history : List Entry
  pub is_text : IsTextOfHistory script text history
  pub holds : P script history

-- Q holds where the command is `run`
abbrev pub IfRun : Command → Type 0 → Type 0
IfRun One Q = ⊤
IfRun Audit Q = ⊤
IfRun (Gen number) Q = ⊤
IfRun (Run count) Q = Q

-- where the words name `run`, the source tells its bytes (`left`, all that it had), and so does the sink (`before` the call and `now`):
-- P holds of the script that was read and of the one history whose text was written
abbrev pub OfWritten : Option Command → Option (List ℕ) → Option (List ℕ) → Option (List ℕ) → (ScriptData → List Entry → Type 0) → Type 0
OfWritten named left before now P = IfSome named (λ command. IfRun command
    (IfSome left (λ input. IfSome before (λ bytes. HasWritten input bytes now P))))

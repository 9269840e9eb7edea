-- The line that stands on standard error for a status, and the status with which the program exits. Own format.
use Rattle.std.specs.Prelude.{[], List, codes, ℕ}
use Rattle.call_answers.specs.Texts.{no_memory_text}
use Rattle.script_input.specs.Refusals.{refusal_text}
use Rattle.browser_cli.specs.declared.status.Status.{Status}
use Rattle.browser_cli.specs.declared.status.Status.TheVariants.{Ran, Illegal, Usage, ReadFault, WriteFault, Refused, TooLarge, NoMemory}

-- the line of a status; empty where the program ran
unfoldable pub line_of : Status → List ℕ
line_of Ran = []
line_of (Illegal finding) = codes "illegal"
line_of Usage = codes "usage: one | run N | audit | gen NUMBER"
line_of ReadFault = codes "read fault"
line_of WriteFault = codes "write fault"
line_of (Refused refusal) = refusal_text refusal
line_of TooLarge = codes "too large"
line_of NoMemory = no_memory_text

-- the exit status
abbrev pub exit_code_of : Status → ℕ
exit_code_of Ran = 0
exit_code_of (Illegal finding) = 1
exit_code_of Usage = 2
exit_code_of ReadFault = 3
exit_code_of WriteFault = 4
exit_code_of (Refused refusal) = 5
exit_code_of TooLarge = 6
exit_code_of NoMemory = 7

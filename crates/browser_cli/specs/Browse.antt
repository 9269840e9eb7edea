-- What the top call reads, writes and answers.
use Rattle.std.specs.Prelude.{◌≡◌, ◌<◌, ◌≤◌, [], IfSome, List, None, Option, Some, ⊤, length, take, ℕ}
use Rattle.std.specs.Io.KnownBytes.{Appends, IsAtEnd}
use Rattle.browser_cli.specs.Answers.{IsAnswer, IsRefusal}
use Rattle.browser_cli.specs.Commands.{input_limit}
use Rattle.browser_cli.specs.declared.command.Command.{Command}
use Rattle.browser_cli.specs.declared.command.Command.TheVariants.{Audit, Gen, One, Run}
use Rattle.browser_cli.specs.declared.status.Status.{Status}
use Rattle.browser_cli.specs.declared.status.Status.TheVariants.{Illegal, Ran, Refused, TooLarge}

-- a command's input, of what its source has left: all of it, and nothing for `gen`
abbrev pub input_of : Command → Option (List ℕ) → Option (List ℕ)
input_of One left = left
input_of Audit left = left
input_of (Gen number) left = Some []
input_of (Run count) left = left

-- P holds of the command that is named and of its input, where the source tells its bytes
abbrev pub IfInput : Option Command → Option (List ℕ) → (Command → List ℕ → Type 0) → Type 0
IfInput named left P = IfSome named (λ command. IfSome (input_of command left) (P command))

-- the command's source was read to its end; `gen` has no source
abbrev pub IsReadWhole : Option (List ℕ) → Command → Type 0
IsReadWhole left One = IsAtEnd left
IsReadWhole left Audit = IsAtEnd left
IsReadWhole left (Gen number) = ⊤
IsReadWhole left (Run count) = IsAtEnd left

-- nothing is read: no command is named, or `gen`
abbrev pub ReadsNothing : Option Command → Type 0
ReadsNothing None = ⊤
ReadsNothing (Some One) = ⊥
ReadsNothing (Some Audit) = ⊥
ReadsNothing (Some (Gen number)) = ⊤
ReadsNothing (Some (Run count)) = ⊥

-- exactly the whole output was written that the command makes of its input with this status
abbrev pub WritesOutput : Status → Option (List ℕ) → Option (List ℕ) → Command → List ℕ → Type 0
WritesOutput status before now command input = (output : List ℕ) × IsAnswer command input status output × Appends before now output

-- a part of the output was written, from its front on, and not all of it
abbrev pub AppendsPart : Option (List ℕ) → Option (List ℕ) → List ℕ → Type 0
AppendsPart before now output = (sent : ℕ) × (sent < length output) × Appends before now (take sent output)

-- a part was written of the output that the command makes of its input
abbrev pub WritesPart : Option (List ℕ) → Option (List ℕ) → Command → List ℕ → Type 0
WritesPart before now command input = (status : Status) × (output : List ℕ) × IsAnswer command input status output × AppendsPart before now output

-- how a command ends over an input that is not too long
abbrev pub IsEnding : Command → List ℕ → Status → Type 0
IsEnding command input Ran = (output : List ℕ) × IsAnswer command input Ran output
IsEnding command input (Illegal finding) = (output : List ℕ) × IsAnswer command input (Illegal finding) output
IsEnding command input (Refused refusal) = IsRefusal command input refusal
IsEnding command input _ = ⊥

-- how a command ends over an input, where no read and no write fails and memory is found
pub record IsStatusFor (command : Command) (input : List ℕ) (status : Status) : Type 0 where
  pub too_large : input_limit command < length input → status ≡ TooLarge
  pub fits : length input ≤ input_limit command → IsEnding command input status

-- a command ends in one way over an input
abbrev pub StatusesAreUnique : Type 0
StatusesAreUnique = (command : Command) (input : List ℕ) (a b : Status) → IsStatusFor command input a → IsStatusFor command input b → a ≡ b

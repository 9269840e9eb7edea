-- The commands that the words of a command line name, and the frame of what `audit` reads. Own formats.
use Rattle.std.specs.Prelude.{◌≡◌, ◌≤◌, ◌==◌, ◌&&◌, ◌++◌, ◌∷◌, [], if◌then◌else◌, ⊤, Bool, List, None, Option, Some, bytes_eq, codes, length, nat_le, not, option_and_then, option_map, ℕ}
use Rattle.decimal_text.specs.Numbers.{decimal_number, long_decimal_number}
use Rattle.script_input.specs.Refusals.{refusal}
use Rattle.script_input.specs.declared.refusal.Refusal.{Refusal}
use Rattle.browser_cli.specs.declared.command.Command.{Command}
use Rattle.browser_cli.specs.declared.command.Command.TheVariants.{Audit, Gen, One, Run}

-- `one` or `audit`
unfoldable pub single_command : List ℕ → Option Command
single_command word = if bytes_eq word (codes "one") then Some One
    else (if bytes_eq word (codes "audit") then Some Audit else None)

-- the most workers of `run`
abbrev pub most_workers : ℕ
most_workers = 16

-- the number, where it is one of workers: from 1 on
abbrev pub workers_of : ℕ → Option ℕ
workers_of n = if nat_le 1 n && nat_le n most_workers then Some n else None

-- the number of workers that a text writes
unfoldable pub worker_count : List ℕ → Option ℕ
worker_count number = option_and_then workers_of (decimal_number number)

-- `gen` with a number below 2^64, or `run` with a number of workers, in decimal, without sign and without leading zeros
unfoldable pub numbered_command : List ℕ → List ℕ → Option Command
numbered_command word number = if bytes_eq word (codes "gen") then option_map (λ n. Gen n) (long_decimal_number number)
    else (if bytes_eq word (codes "run") then option_map (λ n. Run n) (worker_count number) else None)

-- the command that the words name
unfoldable pub command_of : List (List ℕ) → Option Command
command_of (word ∷ []) = single_command word
command_of (word ∷ number ∷ []) = numbered_command word number
command_of _ = None

-- `run` has from 1 to 16 workers
abbrev pub HasWorkers : Command → Type 0
HasWorkers One = ⊤
HasWorkers Audit = ⊤
HasWorkers (Gen number) = ⊤
HasWorkers (Run count) = (1 ≤ count) × (count ≤ most_workers)

-- one thread does the command: it is not `run`
abbrev pub IsOfOneThread : Command → Type 0
IsOfOneThread One = ⊤
IsOfOneThread Audit = ⊤
IsOfOneThread (Gen number) = ⊤
IsOfOneThread (Run count) = ⊥

-- the command, where one thread does it
abbrev pub of_one_thread : Option Command → Option Command
of_one_thread (Some (Run count)) = None
of_one_thread named = named

-- the command of one thread that the words name
abbrev pub one_thread_command_of : List (List ℕ) → Option Command
one_thread_command_of words = of_one_thread (command_of words)

-- the most bytes of a script
abbrev pub script_limit : ℕ
script_limit = 4194304

-- the most bytes of input
abbrev pub input_limit : Command → ℕ
input_limit One = script_limit
input_limit Audit = 536870912
input_limit (Gen number) = 0
input_limit (Run count) = script_limit

-- no line feed
abbrev pub is_no_feed : ℕ → Bool
is_no_feed b = not (b == 10)

-- LEN and a line feed, LEN bytes of a script, and the text behind them. LEN is a script's limit at most, in decimal without sign and
-- without leading zeros
pub record IsCut (rest script text : List ℕ) : Type 0 where
  pub number : List ℕ
  pub is_length : decimal_number number ≡ Some (length script)
  pub fits : length script ≤ script_limit
  pub whole : rest ≡ number ++ 10 ∷ (script ++ text)

-- what `audit` reads: the line `script LEN`, LEN bytes of a script, and the text of a history
pub record IsFramed (input script text : List ℕ) : Type 0 where
  pub rest : List ℕ
  pub word : input ≡ codes "script " ++ rest
  pub is_cut : IsCut rest script text

-- the input has no such frame
abbrev pub HasNoFrame : List ℕ → Type 0
HasNoFrame input = (script text : List ℕ) → ¬ IsFramed input script text

-- nothing is cut so
abbrev pub HasNoCut : List ℕ → Type 0
HasNoCut rest = (script text : List ℕ) → ¬ IsCut rest script text

-- the refusal of an input without a frame: X8
abbrev pub bad_framing : Refusal
bad_framing = refusal 8

-- Inputs that are too long.
use Rattle.std.proofs.Common.{◌≡◌, ◌∙◌, ◌+◌, ◌<◌, List, None, Option, Some, Result, Err, Ok, ap, arith, length, length-append, refl, subst, ℕ}
use Rattle.std.specs.Prelude.{IsOk}
use Rattle.browser_io.specs.Moved.{TakesExactly}
use Rattle.browser_io.specs.declared.reading.ReadStop.{ReadStop}
use Rattle.browser_io.specs.declared.reading.ReadStop.TheVariants as stops
use Rattle.browser_cli.specs.Browse.{IsStatusFor, ReadsNothing, input_of}
use Rattle.browser_cli.specs.Commands.{input_limit}
use Rattle.browser_cli.specs.declared.command.Command.{Command}
use Rattle.browser_cli.specs.declared.command.Command.TheVariants.{Audit, Gen, One, Run}
use Rattle.browser_cli.specs.declared.status.Status.TheVariants.{TooLarge}

longer : (limit : ℕ) (input : List ℕ) (now : Option (List ℕ)) → TakesExactly (Some input) now (limit + 1) → limit < length input
longer limit input (Some rest) (taken, whole, many) =
    let parts : length input ≡ length taken + length rest = ap length whole ∙ length-append taken rest in
    omega arith
longer limit input None (taken, whole, many) = absurd whole

too_large : (command : Command) (input : List ℕ) → input_limit command < length input → IsStatusFor command input TooLarge
too_large command input long = record { too_large = λ _. refl; fits = λ fits. absurd (omega arith) }

not_ok : {T : Type 0} (read : Result T ReadStop) → read ≡ Err stops.TooLarge → IsOk read → ⊥
not_ok (Ok x) is ok = absurd cc
not_ok (Err stop) is ok = absurd cc

-- a command whose source gave a byte more than its limit
pub too_long : {T : Type 0} (command : Command) (input : List ℕ) (left now : Option (List ℕ)) (read : Result T ReadStop)
    → read ≡ Err stops.TooLarge → (ReadsNothing (Some command) → IsOk read) → TakesExactly left now (input_limit command + 1)
    → input_of command left ≡ Some input → IsStatusFor command input TooLarge
too_long One input left now read is silent takes all =
    too_large One input (longer (input_limit One) input now (subst (λ l. TakesExactly l now (input_limit One + 1)) all takes))
too_long Audit input left now read is silent takes all =
    too_large Audit input (longer (input_limit Audit) input now (subst (λ l. TakesExactly l now (input_limit Audit + 1)) all takes))
too_long (Run count) input left now read is silent takes all =
    too_large (Run count) input (longer (input_limit (Run count)) input now (subst (λ l. TakesExactly l now (input_limit (Run count) + 1)) all takes))
too_long (Gen number) input left now read is silent takes all = absurd (not_ok read is (silent tt))

-- the same, of the command that the words name
pub too_long_named : {T : Type 0} (given command : Command) (names : Option Command) (input : List ℕ) (left now : Option (List ℕ)) (read : Result T ReadStop)
    → Some given ≡ names → names ≡ Some command → read ≡ Err stops.TooLarge → (ReadsNothing (Some given) → IsOk read)
    → TakesExactly left now (input_limit given + 1) → input_of command left ≡ Some input → IsStatusFor command input TooLarge
too_long_named given command names input left now read is named stopped silent takes all =
    let same : given ≡ command = cc in
    too_long command input left now read stopped (subst (λ c. ReadsNothing (Some c) → IsOk read) same silent)
    (subst (λ c. TakesExactly left now (input_limit c + 1)) same takes) all

-- How a judge tells a verdict.
use Rattle.std.specs.Prelude.{Bool, true, Option, Some, None}
use Rattle.script_model.specs.Verdicts as verdicts
use Rattle.script_model.specs.declared.verdict.Verdict.{Verdict}
use Rattle.read_verdict.specs.declared.ruling.Ruling.{Ruling}
use Rattle.read_verdict.specs.declared.ruling.Ruling.TheVariants.{More, Settled}

-- the verdict, or that there is none yet
abbrev pub ruling_of : Option Verdict → Ruling
ruling_of (Some v) = Settled v
ruling_of None = More

-- a settled verdict allows by a rule that allows, and blocks by one that blocks
abbrev pub has_own_rule : Ruling → Bool
has_own_rule (Settled v) = verdicts.has_own_rule v
has_own_rule More = true

-- What each `Rule` is and keeps.
use Rattle.std.specs.Prelude.{◌≡◌, true, string_bytes}
use Rattle.public_suffix.specs.declared.rule.Rule.TheInside.{Inside}
use Rattle.public_suffix.specs.RegistrableDomain.{SuffixRule}
use Rattle.public_suffix.specs.RuleLines.{is_rule}

abbrev pub rule_view : Inside → SuffixRule
rule_view rule = record { exception = rule.exception; text = string_bytes rule.text }

-- it has the form of a rule
abbrev pub IsWellFormed : Inside → Type 0
IsWellFormed rule = is_rule (rule_view rule) ≡ true

-- What the text of the suffix rules is read as.
use Rattle.std.proofs.Common.{◌≡◌, refl, Ok}
use Rattle.public_suffix.specs.Reading.{lines, reading, rules_on}
use Rattle.public_suffix.specs.RuleLines.{is_passed_over, is_rule}
use Rattle.script_gen.specs.Generated.{suffix_text}

pub suffixes_are_read : reading suffix_text ≡ Ok (rules_on (lines suffix_text))
unfolding reading is_passed_over is_rule
suffixes_are_read = refl

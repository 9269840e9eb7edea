-- What the index of a list of rules keeps.
use Rattle.std.specs.Prelude.{◌≡◌, ℕ, true, List}
use Rattle.std.specs.List.{list_any, list_all}
use Rattle.std.specs.HashSet.{contains_text}
use Rattle.public_suffix.specs.declared.rule_index.RuleIndex.{RuleIndex}
use Rattle.public_suffix.specs.RegistrableDomain.{SuffixRule}
use Rattle.public_suffix.specs.RuleLines.{is_rule}
use Rattle.public_suffix.specs.RuleTexts.{is_exception_with, is_other_with, is_star_before}

-- each set has exactly the texts of the rules of one kind, and each rule has the form of one
pub record IsIndexOf (index : RuleIndex) (rules : List SuffixRule) : Type 0 where
  pub formed : list_all is_rule rules ≡ true
  pub exceptions : (text : List ℕ) → contains_text index.exceptions text ≡ list_any (is_exception_with text) rules
  pub others : (text : List ℕ) → contains_text index.others text ≡ list_any (is_other_with text) rules
  pub stars : (text : List ℕ) → contains_text index.stars text ≡ list_any (is_star_before text) rules

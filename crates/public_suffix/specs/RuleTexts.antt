-- How a rule is found by its text: what an index of a list of rules tells.
use Rattle.std.specs.Prelude.{ℕ, Bool, not, ◌&&◌, List, ◌++◌, codes, bytes_eq}
use Rattle.public_suffix.specs.RegistrableDomain.{SuffixRule}

-- an exception with this text
abbrev pub is_exception_with : List ℕ → SuffixRule → Bool
is_exception_with text rule = rule.exception && bytes_eq text rule.text

-- a rule with this text that is no exception
abbrev pub is_other_with : List ℕ → SuffixRule → Bool
is_other_with text rule = not rule.exception && bytes_eq text rule.text

-- a rule that is `*.` and this text
abbrev pub is_star_before : List ℕ → SuffixRule → Bool
is_star_before text rule = not rule.exception && bytes_eq (codes "*." ++ text) rule.text

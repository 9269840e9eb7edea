-- Public suffixes and registrable domains by a list of rules, after the algorithm of the Public Suffix List:
-- a choice among all rules that match a host.
use Rattle.std.specs.Prelude.{ℕ, ◌+◌, ◌-◌, Bool, not, ◌&&◌, ◌||◌, nat_lt, nat_le, max, List, length, drop, codes, bytes_eq, Option, Some, None, if◌then◌else◌, fold, filter}
use Rattle.std.specs.List.{list_all, zip}
use Rattle.public_suffix.specs.Labels.{labels, label_count, has_empty_label, label_start}

-- a rule: its text in lower case, without the `!` that marks an exception
pub record SuffixRule : Type 0 where
  pub exception : Bool
  pub text : List ℕ

-- a rule's label is the host's label, or is `*`, which any label fits
abbrev pub label_fits : List ℕ × List ℕ → Bool
label_fits pair = bytes_eq pair.1 (codes "*") || bytes_eq pair.0 pair.1

-- the host's last labels fit the rule's labels
unfoldable pub fits_last : List (List ℕ) → List (List ℕ) → Bool
fits_last host rule = nat_le (length rule) (length host)
    && list_all label_fits (zip (drop (length host - length rule) host) rule)

-- a rule matches a host
abbrev pub matches : List ℕ → SuffixRule → Bool
matches host rule = fits_last (labels host) (labels rule.text)

-- the most labels that one of these rules has, or 0 where there is none
abbrev pub most_labels : List SuffixRule → ℕ
most_labels rules = fold (λ most rule. max most (label_count rule.text)) 0 rules

-- the exceptions that match a host, and the other rules that match it
abbrev pub matching_exceptions : List SuffixRule → List ℕ → List SuffixRule
matching_exceptions rules host = filter (λ rule. rule.exception && matches host rule) rules

abbrev pub matching_others : List SuffixRule → List ℕ → List SuffixRule
matching_others rules host = filter (λ rule. not rule.exception && matches host rule) rules

-- how many labels the public suffix has: those of the longest matching exception without its leftmost one; where no
-- exception matches, those of the longest matching rule; where no rule matches, one
unfoldable pub suffix_label_count : List SuffixRule → List ℕ → ℕ
suffix_label_count rules host =
    if nat_lt 0 (most_labels (matching_exceptions rules host)) then most_labels (matching_exceptions rules host) - 1
    else max 1 (most_labels (matching_others rules host))

-- the byte at which the registrable domain begins: the public suffix and one label more. There is none where the host
-- has no label more, or has an empty one
unfoldable pub registrable : List SuffixRule → List ℕ → Option ℕ
registrable rules host =
    if has_empty_label host || nat_le (label_count host) (suffix_label_count rules host) then None
    else Some (label_start host (label_count host - (suffix_label_count rules host + 1)))

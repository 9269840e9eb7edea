-- The labels of a domain name, after RFC 1034, section 3.1: the parts between its dots.
use Rattle.std.specs.Prelude.{◌≡◌, ℕ, ◌+◌, ◌-◌, ◌==◌, Bool, List, [], ◌∷◌, length, if◌then◌else◌}
use Rattle.std.specs.List.{slice_split, list_any}

-- a dot
abbrev pub is_dot : ℕ → Bool
is_dot b = b == 46

-- the labels of a host or a rule, leftmost first
abbrev pub labels : List ℕ → List (List ℕ)
labels text = slice_split is_dot text

-- how many labels a host or a rule has
abbrev pub label_count : List ℕ → ℕ
label_count text = length (labels text)

-- a label is empty, as all of an empty host, or what follows a dot at the end
abbrev pub has_empty_label : List ℕ → Bool
has_empty_label text = list_any (λ label. length label == 0) (labels text)

-- the byte at which the labels after the first n begin
abbrev pub label_start : List ℕ → ℕ → ℕ
label_start [] n = 0
label_start (b ∷ bytes) n = if n == 0 then 0 else 1 + label_start bytes (if is_dot b then n - 1 else n)

-- a host is this label, and a dot and the rest
pub record IsLabelBefore (host label rest : List ℕ) : Type 0 where
  pub split : labels host ≡ label ∷ labels rest

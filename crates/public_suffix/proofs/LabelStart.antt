-- Where the labels of a host begin.
use Rattle.std.proofs.Common.{◌≡◌, ℕ, ◌-◌, ◌<◌, suc, zero, Bool, true, false, cond, List, [], ◌∷◌, length, drop, refl, ap, sym, ◌∙◌, arith, ◌==◌, ◌⊎◌, inl, inr, ⊎_elim}
use Rattle.std.specs.List.{list_any, onto_first}
use Rattle.std.proofs.lemmas.List.Splits.{length-slice_split}
use Rattle.std.proofs.lemmas.Bool.Decides.{nat_tests}
use Rattle.public_suffix.specs.Labels.{labels, label_count, label_start, is_dot, has_empty_label}

-- no label stands before the first
pub label_start_none : (bytes : List ℕ) → label_start bytes 0 ≡ 0
label_start_none [] = refl
label_start_none (b ∷ bytes) = refl

abbrev pub is_empty_label : List ℕ → Bool
is_empty_label label = length label == 0

-- after a byte of the first label
after_onto : (b : ℕ) (parts : List (List ℕ)) → 0 < length parts → drop 1 (onto_first b parts) ≡ drop 1 parts
after_onto b [] some = absurd (omega arith)
after_onto b (part ∷ parts) some = refl

length_onto : (b : ℕ) (parts : List (List ℕ)) → 0 < length parts → length (onto_first b parts) ≡ length parts
length_onto b [] some = absurd (omega arith)
length_onto b (part ∷ parts) some = refl

pub some_labels : (bytes : List ℕ) → 0 < length (labels bytes)
some_labels bytes = omega (arith, length-slice_split is_dot bytes)

first_some : (bytes : List ℕ) → list_any is_empty_label (labels bytes) ≡ false → 0 < length bytes
first_some [] none = absurd (cc)
first_some (b ∷ bytes) none = omega arith

tail_none : (parts : List (List ℕ)) → list_any is_empty_label parts ≡ false → list_any is_empty_label (drop 1 parts) ≡ false
tail_none [] none = refl
tail_none (part ∷ parts) none = grind arith

zero_or_more : (n : ℕ) → (n ≡ 0) ⊎ (0 < n)
zero_or_more zero = inl refl
zero_or_more (suc n) = inr (omega arith)

-- the labels but the first are not empty, so each begins within the text
abbrev pub BeginWithin : List ℕ → Type 0
BeginWithin bytes = (count : ℕ) → list_any is_empty_label (drop 1 (labels bytes)) ≡ false → count < label_count bytes → 0 < count → label_start bytes count < length bytes

step_by : (b : ℕ) (bytes : List ℕ) (count : ℕ) (dot : Bool) → BeginWithin bytes → list_any is_empty_label (drop 1 (cond dot ([] ∷ labels bytes) (onto_first b (labels bytes)))) ≡ false → count < length (cond dot ([] ∷ labels bytes) (onto_first b (labels bytes))) → 0 < count → label_start bytes (cond dot (count - 1) count) < length bytes
step_by b bytes count true more none few some =
    ⊎_elim (λ none_left. omega (arith, ap (label_start bytes) none_left ∙ label_start_none bytes, first_some bytes none)) (λ positive. more (count - 1) (tail_none (labels bytes) none) (omega arith) positive) (zero_or_more (count - 1))
step_by b bytes count false more none few some =
    more count (ap (list_any is_empty_label) (sym (after_onto b (labels bytes) (some_labels bytes))) ∙ none) (omega (arith, length_onto b (labels bytes) (some_labels bytes))) some

start_within : (bytes : List ℕ) → BeginWithin bytes
start_within [] = λ count none few some. absurd (omega arith)
start_within (b ∷ bytes) = λ count none few some.
    let step : label_start bytes (cond (is_dot b) (count - 1) count) < length bytes = step_by b bytes count (is_dot b) (start_within bytes) none few some in
    start_at b bytes count some step
  where
    start_at : (b : ℕ) (bytes : List ℕ) (count : ℕ) → 0 < count → label_start bytes (cond (is_dot b) (count - 1) count) < length bytes → label_start (b ∷ bytes) count < suc (length bytes)
    start_at b bytes count some step = grind (arith, nat_tests)

-- in a host without empty labels each label begins within the host
pub label_start_within : (host : List ℕ) (count : ℕ) → has_empty_label host ≡ false → count < label_count host → label_start host count < length host
label_start_within host count none few =
    ⊎_elim (λ first. omega (arith, ap (label_start host) first ∙ label_start_none host, first_some host none)) (λ later. start_within host count (tail_none (labels host) none) few later) (zero_or_more count)

-- What cutting a host at its first dot says of its labels.
use Rattle.std.proofs.Common.{◌≡◌, ℕ, ◌+◌, ◌<◌, Bool, true, false, cond, not, List, [], ◌∷◌, length, refl, ap, sym, ◌∙◌, arith, Some, None, lit<, Option, subst, get_or}
use Rattle.std.specs.Option.{MatchOption}
use Rattle.std.specs.List.{position_or_len, before_first, after_first, onto_first}
use Rattle.std.proofs.lemmas.Bool.Decides.{nat_tests}
use Rattle.std.proofs.lemmas.List.Splits.{slice_split_first}
use Rattle.std.proofs.lemmas.Str.Pattern.{IsSplitOnceResult, split_once_first}
use Rattle.std.specs.Str.{IsUtf8}
use Rattle.std.proofs.lemmas.Str.{IsUtf8-drop, IsCharBoundary-after_ascii}
use Rattle.std.proofs.lemmas.List.Sums.{passes_at_first}
use denote.Ref.{Bor}
use Rattle.public_suffix.specs.Labels.{labels, label_count, is_dot, IsLabelBefore}

one_by : (b : ℕ) (bytes : List ℕ) (place : ℕ) (dot : Bool) → cond (not dot) (1 + place) 0 ≡ length (b ∷ bytes) → (place ≡ length bytes → labels bytes ≡ bytes ∷ []) → cond dot ([] ∷ labels bytes) (onto_first b (labels bytes)) ≡ (b ∷ bytes) ∷ []
one_by b bytes place true ends more = absurd (omega (arith, ends))
one_by b bytes place false ends more = ap (onto_first b) (more (omega (arith, ends)))

-- a host without a dot is its one label
one_label : (host : List ℕ) → position_or_len is_dot host ≡ length host → labels host ≡ host ∷ []
one_label [] ends = refl
one_label (b ∷ bytes) ends = one_by b bytes (position_or_len is_dot bytes) (is_dot b) ends (λ more. one_label bytes more)

-- what follows the first dot of a text is text
text_after : (host : List ℕ) → IsUtf8 host → position_or_len is_dot host < length host → IsUtf8 (after_first is_dot host)
text_after host text within =
    let dot = passes_at_first is_dot host 0 within in
    let low : get_or host (position_or_len is_dot host) 0 < 128 = grind (arith, nat_tests) in
    IsUtf8-drop host (position_or_len is_dot host + 1) text (IsCharBoundary-after_ascii host (position_or_len is_dot host) text within low)

rest_by : (host : List ℕ) → IsUtf8 host → (r : Option (Bor (List ℕ) × Bor (List ℕ))) → MatchOption r (position_or_len is_dot host ≡ length host) (λ x. (position_or_len is_dot host < length host) × (x.0.now ≡ before_first is_dot host) × (x.1.now ≡ after_first is_dot host)) → MatchOption r (label_count host ≡ 1) (λ x. IsLabelBefore host (before_first is_dot host) x.1.now × IsUtf8 x.1.now)
rest_by host text None none = ap length (one_label host none)
rest_by host text (Some x) some =
    let split : IsLabelBefore host (before_first is_dot host) x.1.now = record { split = slice_split_first is_dot host 0 some.0 ∙ ap (λ rest. before_first is_dot host ∷ labels rest) (sym some.2) } in
    (split, subst (λ (rest : List ℕ). IsUtf8 rest) (sym some.2) (text_after host text some.0))

-- what `split_once` at a dot says of the labels
pub rest_of : (host : List ℕ) → IsUtf8 host → (r : Option (Bor (List ℕ) × Bor (List ℕ))) → IsSplitOnceResult 46 host r → MatchOption r (label_count host ≡ 1) (λ x. IsLabelBefore host (before_first is_dot host) x.1.now × IsUtf8 x.1.now)
rest_of host text r found = rest_by host text r (split_once_first 46 host r found (lit< tt))

-- Cuts that are read one after another.
use Rattle.std.proofs.Common.{◌≡◌, ◌<◌, ℕ, ◌+◌, ◌-◌, List, [], ◌∷◌, ◌++◌, ◌≤◌, length, length-append, refl, arith, inl, inr}
use Rattle.std.specs.Prelude.{slice_index}
use Rattle.std.specs.List.Sorted.{IsStrictlyIncreasing}
use Rattle.std.proofs.lemmas.List.Elements.{All-nil, All-push}
use Rattle.std.proofs.lemmas.Bool.{cases_lt}
use Rattle.std.proofs.lemmas.List.{get_or_append_left}
use Rattle.std.proofs.lemmas.Option.{unwrap_or-slice_get}
use Rattle.std.proofs.Math.Seq.{get_or-append_seam}
use Rattle.script_model.specs.ResourceData.{IsCuts}
use Rattle.script_input.specs.Bodies.{last_cut}
use Rattle.script_input.specs.ForProofs.{AreCuts}

pub no_cuts : (size : ℕ) → AreCuts size []
no_cuts size = record { rising = λ k h. absurd (omega arith); within = All-nil (λ cut. (0 < cut) × (cut < size)) }

pub no_cuts_at_all : (size : ℕ) → IsCuts size []
no_cuts_at_all size = record { few = omega arith; rising = (no_cuts size).rising; within = (no_cuts size).within }

-- at most 63 cuts are those of a body
pub are_cuts : (size : ℕ) (cuts : List ℕ) → length cuts ≤ 63 → AreCuts size cuts → IsCuts size cuts
are_cuts size cuts few are = record { few = few; rising = are.rising; within = are.within }

last_index : (cuts : List ℕ) (k : ℕ) → k + 1 ≡ length cuts → slice_index cuts k ≡ last_cut cuts
last_index cuts k last = let at : length cuts - 1 ≡ k = omega arith in rw (at, unwrap_or-slice_get cuts k 0) refl

rising_at : (cuts : List ℕ) (cut k : ℕ) → IsStrictlyIncreasing cuts → last_cut cuts < cut → k < length cuts → slice_index (cuts ++ cut ∷ []) k < slice_index (cuts ++ cut ∷ []) (k + 1)
rising_at cuts cut k rising above within = elim (cases_lt (k + 1) (length cuts)) [
  | inl inside ↦ rw (get_or_append_left cuts (cut ∷ []) 0 k within, get_or_append_left cuts (cut ∷ []) 0 (k + 1) inside) (rising k inside)
  | inr past ↦
      let last : k + 1 ≡ length cuts = omega arith in
      rw (get_or_append_left cuts (cut ∷ []) 0 k within, last, get_or-append_seam cuts cut [] 0, last_index cuts k last) above
]

rising_more : (cuts : List ℕ) (cut : ℕ) → IsStrictlyIncreasing cuts → last_cut cuts < cut → IsStrictlyIncreasing (cuts ++ cut ∷ [])
rising_more cuts cut rising above = λ k h. rising_at cuts cut k rising above (omega (arith, h, length-append cuts (cut ∷ [])))

-- a cut behind the last one is one more
pub one_more_cut : (size : ℕ) (cuts : List ℕ) (cut : ℕ) → AreCuts size cuts → last_cut cuts < cut → cut < size → AreCuts size (cuts ++ cut ∷ [])
one_more_cut size cuts cut is above within = record {
  rising = rising_more cuts cut is.rising above;
  within = All-push (λ cut. (0 < cut) × (cut < size)) cuts cut is.within (omega arith, within);
}

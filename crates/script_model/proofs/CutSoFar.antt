-- A body that is being cut: the pieces so far, and what is left with its cuts.
use Rattle.std.proofs.Common.{ap, ◌∙◌, refl, subst, sym, arith}
use Rattle.std.specs.Prelude.{◌≡◌, ◌+◌, ◌++◌, ◌-◌, ◌<◌, ◌≤◌, ◌∷◌, [], Bool, List, cond, drop, false, get_or, length, nat_lt, take, true, ℕ}
use Rattle.std.proofs.lemmas.Bool.{lt-ltb}
use Rattle.std.proofs.lemmas.List.{append_assoc, drop_all, drop_more, length-drop}
use Rattle.script_model.specs.CutPlaces.{IsCutFrom, cuts_below}
use Rattle.script_model.specs.Pieces.{cut_at}

-- after the first i cuts
pub record IsCutSoFar (cuts bytes : List ℕ) (i from : ℕ) (rest : List ℕ) (pieces : List (List ℕ)) : Type 0 where
  pub some : 0 < length rest
  pub place : from + length rest ≡ length bytes
  pub rising : IsCutFrom from (length bytes) (cuts_below (length bytes) (drop i cuts))
  pub cut : pieces ++ cut_at from (cuts_below (length bytes) (drop i cuts)) rest ≡ cut_at 0 (cuts_below (length bytes) cuts) bytes

-- the next cut takes a piece off
pub record IsNextCut (end from c : ℕ) (later rest : List ℕ) (pieces whole : List (List ℕ)) : Type 0 where
  pub above : from < c
  pub rising : IsCutFrom c end later
  pub cut : (pieces ++ take (c - from) rest ∷ []) ++ cut_at c later (drop (c - from) rest) ≡ whole

regroup : {X : Type 0} (xs : List X) (x : X) (ys : List X) → (xs ++ x ∷ []) ++ ys ≡ xs ++ (x ∷ ys)
regroup xs x ys = append_assoc xs (x ∷ []) ys

next_by : (end from c : ℕ) (cuts rest : List ℕ) (pieces whole : List (List ℕ)) (b : Bool) → b ≡ true → IsCutFrom from end (cond b (c ∷ cuts) cuts) → pieces ++ cut_at from (cond b (c ∷ cuts) cuts) rest ≡ whole → IsNextCut end from c cuts rest pieces whole
next_by end from c cuts rest pieces whole true is rise cut = record { above = rise.0; rising = rise.2; cut = regroup pieces (take (c - from) rest) (cut_at c cuts (drop (c - from) rest)) ∙ cut }
next_by end from c cuts rest pieces whole false is rise cut = absurd (cc)

skip_by : (b : Bool) (c : ℕ) (cuts : List ℕ) → b ≡ false → cond b (c ∷ cuts) cuts ≡ cuts
skip_by true c cuts is = absurd (cc)
skip_by false c cuts is = refl

module _ (cuts bytes : List ℕ) (i from : ℕ) (rest : List ℕ) (pieces : List (List ℕ)) (c : ℕ) (so_far : IsCutSoFar cuts bytes i from rest pieces) (within : i < length cuts) (is : c ≡ get_or cuts i c) where
  next_drop : drop i cuts ≡ c ∷ drop (i + 1) cuts
  next_drop = drop_more cuts i c within ∙ ap (λ x. x ∷ drop (i + 1) cuts) (sym is)

  rising_on : IsCutFrom from (length bytes) (cuts_below (length bytes) (c ∷ drop (i + 1) cuts))
  rising_on = subst (λ xs. IsCutFrom from (length bytes) (cuts_below (length bytes) xs)) next_drop so_far.rising

  cut_on : pieces ++ cut_at from (cuts_below (length bytes) (c ∷ drop (i + 1) cuts)) rest ≡ cut_at 0 (cuts_below (length bytes) cuts) bytes
  cut_on = ap (λ xs. pieces ++ cut_at from (cuts_below (length bytes) xs) rest) (sym next_drop) ∙ so_far.cut

  -- a cut below the end
  module _ (low : c < length bytes) where
    next : IsNextCut (length bytes) from c (cuts_below (length bytes) (drop (i + 1) cuts)) rest pieces (cut_at 0 (cuts_below (length bytes) cuts) bytes)
    next = next_by (length bytes) from c (cuts_below (length bytes) (drop (i + 1) cuts)) rest pieces (cut_at 0 (cuts_below (length bytes) cuts) bytes) (nat_lt c (length bytes)) (lt-ltb c (length bytes) low) rising_on cut_on

    pub cut_above : from < c
    cut_above = next.above

    pub cut_within : c - from < length rest
    cut_within = let place = so_far.place in let above = next.above in omega arith

    pub cut_next : IsCutSoFar cuts bytes (i + 1) c (drop (c - from) rest) (pieces ++ take (c - from) rest ∷ [])
    cut_next =
        let place = so_far.place in let above = next.above in let size = length-drop (c - from) rest in
        record { some = omega arith; place = omega arith; rising = next.rising; cut = next.cut }

  -- a cut that is not
  pub cut_skipped : nat_lt c (length bytes) ≡ false → IsCutSoFar cuts bytes (i + 1) from rest pieces
  cut_skipped high = record {
    some = so_far.some;
    place = so_far.place;
    rising = subst (λ xs. IsCutFrom from (length bytes) xs) (skip_by (nat_lt c (length bytes)) c (cuts_below (length bytes) (drop (i + 1) cuts)) high) rising_on;
    cut = ap (λ xs. pieces ++ cut_at from xs rest) (sym (skip_by (nat_lt c (length bytes)) c (cuts_below (length bytes) (drop (i + 1) cuts)) high)) ∙ cut_on;
  }

-- no cut is left
pub cut_whole : (cuts bytes : List ℕ) (i from : ℕ) (rest : List ℕ) (pieces : List (List ℕ)) → IsCutSoFar cuts bytes i from rest pieces → length cuts ≤ i → pieces ++ rest ∷ [] ≡ cut_at 0 (cuts_below (length bytes) cuts) bytes
cut_whole cuts bytes i from rest pieces so_far over = ap (λ xs. pieces ++ cut_at from (cuts_below (length bytes) xs) rest) (sym (drop_all i cuts over)) ∙ so_far.cut

-- The pieces of a resource are the bytes that its wire carries, cut.
use Rattle.std.proofs.Common.{ap, ◌∙◌, arith, refl}
use Rattle.std.proofs.lemmas.List.{take-append-drop, append-nil}
use Rattle.std.specs.Prelude.{◌≡◌, ◌-◌, ◌==◌, ◌++◌, ◌∷◌, [], if◌then◌else◌, Bool, List, drop, false, filter, flat_map, length, nat_lt, take, true, ℕ}
use Rattle.script_model.specs.Pieces.{cut_at, pieces, seen_body, sent_bytes}
use Rattle.script_model.specs.ResourceData.{ResourceData}

joined_cuts : (from : ℕ) (cuts : List ℕ) (bytes : List ℕ) → flat_map (λ piece. piece) (cut_at from cuts bytes) ≡ bytes
joined_cuts from [] bytes = append-nil bytes
joined_cuts from (c ∷ cuts) bytes =
    ap (λ rest. take (c - from) bytes ++ rest) (joined_cuts c cuts (drop (c - from) bytes)) ∙ take-append-drop (c - from) bytes

joined_or_none : (b : Bool) (cuts : List ℕ) (bytes : List ℕ) → (b ≡ true → [] ≡ bytes)
    → flat_map (λ piece. piece) (if b then [] else cut_at 0 cuts bytes) ≡ bytes
joined_or_none true cuts bytes none = none refl
joined_or_none false cuts bytes none = joined_cuts 0 cuts bytes

no_bytes : (bytes : List ℕ) → (length bytes == 0) ≡ true → [] ≡ bytes
no_bytes [] e = refl
no_bytes (b ∷ bytes) e = absurd (grind arith)

-- all bytes of the pieces are the body, or its first k where the wire fails after k
pub pieces_join : (r : ResourceData) → seen_body r ≡ sent_bytes r
unfolding seen_body pieces
pieces_join r = joined_or_none (length (sent_bytes r) == 0) (filter (λ c. nat_lt c (length (sent_bytes r))) r.cuts) (sent_bytes r) (no_bytes (sent_bytes r))

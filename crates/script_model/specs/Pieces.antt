-- The pieces in which a resource's body comes, and the bytes that they hold. Own format.
use Rattle.std.specs.Prelude.{◌-◌, ◌==◌, ◌∷◌, [], if◌then◌else◌, Bool, List, drop, filter, flat_map, is_none, length, nat_lt, take, ℕ}
use Rattle.std.specs.Option.{option_map_or}
use Rattle.script_model.specs.ResourceData.{ResourceData}

-- the bytes that its wire carries: the body, or its first k bytes where the wire fails after k
abbrev pub sent_bytes : ResourceData → List ℕ
sent_bytes r = option_map_or (λ k. take k r.body) r.fail_after r.body

-- the wire does not fail
abbrev pub has_ended : ResourceData → Bool
has_ended r = is_none r.fail_after

-- the bytes from place `from` on, cut at these places
abbrev pub cut_at : ℕ → List ℕ → List ℕ → List (List ℕ)
cut_at from [] bytes = bytes ∷ []
cut_at from (c ∷ cuts) bytes = take (c - from) bytes ∷ cut_at c cuts (drop (c - from) bytes)

-- the bytes that are sent, cut at the cuts below their end; no bytes are no piece
unfoldable pub pieces : ResourceData → List (List ℕ)
pieces r = if length (sent_bytes r) == 0 then []
    else cut_at 0 (filter (λ c. nat_lt c (length (sent_bytes r))) r.cuts) (sent_bytes r)

-- all bytes of the pieces
unfoldable pub seen_body : ResourceData → List ℕ
seen_body r = flat_map (λ piece. piece) (pieces r)

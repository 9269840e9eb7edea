-- One more header field of a response.
use Rattle.std.proofs.Common.{◌≡◌, ◌≤◌, ℕ, Bool, [], ◌∷◌, ◌++◌, cond, false, true, length, refl, arith}
use Rattle.std.specs.Prelude.{codes}
use Rattle.http_header.specs.HeaderMap.{append, value_count}
use Rattle.http_header.specs.Token.{lowercase}
use Rattle.script_gen.specs.Generated.{fields, has_nosniff, is_open, sniffed_fields, typed_fields}

pub few_typed : (response : ℕ) → length (typed_fields response) ≡ 1
unfolding typed_fields
few_typed response = refl

pub few_typed_values : (response : ℕ) → value_count (typed_fields response) ≡ 1
unfolding typed_fields
few_typed_values response = refl

pub sniffed_with : (response : ℕ) → has_nosniff response ≡ true → append (typed_fields response) (lowercase (codes "x-content-type-options")) (codes "nosniff") ≡ sniffed_fields response
unfolding sniffed_fields typed_fields
sniffed_with response has = rw has refl

pub sniffed_without : (response : ℕ) → has_nosniff response ≡ false → typed_fields response ≡ sniffed_fields response
unfolding sniffed_fields typed_fields
sniffed_without response has = rw has refl

count_by : (response : ℕ) (has : Bool) → length (typed_fields response ++ cond has ((codes "x-content-type-options", codes "nosniff" ∷ []) ∷ []) []) ≤ 2
unfolding typed_fields
count_by response true = omega arith
count_by response false = omega arith

pub few_sniffed : (response : ℕ) → length (sniffed_fields response) ≤ 2
unfolding sniffed_fields
few_sniffed response = count_by response (has_nosniff response)

values_by : (response : ℕ) (has : Bool) → value_count (typed_fields response ++ cond has ((codes "x-content-type-options", codes "nosniff" ∷ []) ∷ []) []) ≤ 2
unfolding typed_fields
values_by response true = omega arith
values_by response false = omega arith

pub few_sniffed_values : (response : ℕ) → value_count (sniffed_fields response) ≤ 2
unfolding sniffed_fields
few_sniffed_values response = values_by response (has_nosniff response)

open_by : (response : ℕ) (has : Bool) → append (typed_fields response ++ cond has ((codes "x-content-type-options", codes "nosniff" ∷ []) ∷ []) []) (lowercase (codes "access-control-allow-origin")) (codes "*") ≡ (typed_fields response ++ cond has ((codes "x-content-type-options", codes "nosniff" ∷ []) ∷ []) []) ++ (codes "access-control-allow-origin", codes "*" ∷ []) ∷ []
unfolding typed_fields
open_by response true = refl
open_by response false = refl

pub open_with : (response : ℕ) → is_open response ≡ true → append (sniffed_fields response) (lowercase (codes "access-control-allow-origin")) (codes "*") ≡ fields response
unfolding fields sniffed_fields
open_with response open_to_all = rw open_to_all (open_by response (has_nosniff response))

left_by : (response : ℕ) (has : Bool) → (typed_fields response ++ cond has ((codes "x-content-type-options", codes "nosniff" ∷ []) ∷ []) []) ≡ (typed_fields response ++ cond has ((codes "x-content-type-options", codes "nosniff" ∷ []) ∷ []) []) ++ []
unfolding typed_fields
left_by response true = refl
left_by response false = refl

pub open_without : (response : ℕ) → is_open response ≡ false → sniffed_fields response ≡ fields response
unfolding fields sniffed_fields
open_without response closed = rw closed (left_by response (has_nosniff response))

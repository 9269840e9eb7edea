-- How many keys are there, the first request taken off.
use Rattle.std.proofs.Common.{ap, ◌∙◌, arith, refl, sym}
use Rattle.std.specs.List.{IsFirstAndRest, cons_option}
use Rattle.std.specs.Option.{option_map_or}
use Rattle.std.specs.Prelude.{◌≡◌, ◌+◌, ◌≤◌, ◌∷◌, [], if◌then◌else◌, Bool, List, None, Option, Some, false, length, true, ℕ}
use Rattle.service_rule.specs.KeyRequests.{store_requests}
use Rattle.service_rule.specs.Store.{StoreRequest, is_last_set, key_count, store_request}
use Rattle.service_rule.specs.declared.service.Asked.{Asked}

count_next : (next : Option StoreRequest) (later : List StoreRequest) → key_count (cons_option next later) ≡ (if option_map_or (λ r. is_last_set r later) next false then 1 else 0) + key_count later
unfolding key_count
count_next None later = omega arith
count_next (Some r) later = refl

pub key_count_first : (asked : Asked) (later : List Asked) → key_count (store_requests (asked ∷ later)) ≡ (if option_map_or (λ r. is_last_set r (store_requests later)) (store_request asked.request) false then 1 else 0) + key_count (store_requests later)
key_count_first asked later = count_next (store_request asked.request) (store_requests later)

counted_first : (asked : Asked) (later : List Asked) (last : Bool) → last ≡ option_map_or (λ r. is_last_set r (store_requests later)) (store_request asked.request) false
    → key_count (store_requests (asked ∷ later)) ≡ (if last then 1 else 0) + key_count (store_requests later)
counted_first asked later last is = key_count_first asked later ∙ ap (λ b. (if b then 1 else 0) + key_count (store_requests later)) (sym is)

-- one turn of a loop that counts the keys and takes the first request off
pub counted_more : (rest later : List Asked) (asked : Asked) (count total size : ℕ) → IsFirstAndRest rest asked later
    → (count + key_count (store_requests rest) ≡ total) × (count + length rest ≤ size)
    → true ≡ option_map_or (λ r. is_last_set r (store_requests later)) (store_request asked.request) false
    → (count + 1 + key_count (store_requests later) ≡ total) × (count + 1 + length later ≤ size)
counted_more rest later asked count total size first was is =
    let all : key_count (store_requests rest) ≡ key_count (store_requests (asked ∷ later)) = ap (λ xs. key_count (store_requests xs)) first.0 in
    let some : key_count (store_requests (asked ∷ later)) ≡ 1 + key_count (store_requests later) = counted_first asked later true is in
    let sum = was.0 in
    let few = was.1 in
    let size_less = first.1 in
    (omega arith, omega arith)

pub counted_same : (rest later : List Asked) (asked : Asked) (count total size : ℕ) → IsFirstAndRest rest asked later
    → (count + key_count (store_requests rest) ≡ total) × (count + length rest ≤ size)
    → false ≡ option_map_or (λ r. is_last_set r (store_requests later)) (store_request asked.request) false
    → (count + key_count (store_requests later) ≡ total) × (count + length later ≤ size)
counted_same rest later asked count total size first was is =
    let all : key_count (store_requests rest) ≡ key_count (store_requests (asked ∷ later)) = ap (λ xs. key_count (store_requests xs)) first.0 in
    let some : key_count (store_requests (asked ∷ later)) ≡ 0 + key_count (store_requests later) = counted_first asked later false is in
    let sum = was.0 in
    let few = was.1 in
    let size_less = first.1 in
    (omega arith, omega arith)

pub counted_all : (rest : List Asked) (count total size : ℕ) → length rest ≡ 0 → (count + key_count (store_requests rest) ≡ total) × (count + length rest ≤ size) → count ≡ total
unfolding key_count
counted_all [] count total size none was = let sum = was.0 in omega arith
counted_all (asked ∷ later) count total size none was = absurd (omega arith)

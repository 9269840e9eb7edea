-- The limits of header fields that are appended one after another.
use Rattle.std.proofs.Common.{◌≡◌, ◌≤◌, ℕ, ◌+◌, Bool, true, false, List, [], ◌∷◌, ◌++◌, length, refl, arith, length-append, if◌then◌else◌}
use Rattle.std.specs.Prelude.{All, bytes_eq}
use Rattle.std.proofs.lemmas.List.Elements.{All-cons, All-head, All-nil, All-push, All-tail}
use Rattle.std.proofs.lemmas.List.Sums.{sum_by-cons}
use Rattle.http_header.specs.HeaderMap.{Entries, Entry, append, append_all, value_count}
use Rattle.script_model.specs.ResourceData.{IsHeader, IsHeaders}
use Rattle.script_input.specs.ForProofs.{IsShort}

count_cons : (e : Entry (List ℕ)) (m : Entries (List ℕ)) → value_count (e ∷ m) ≡ length e.1 + value_count m
count_cons e m = sum_by-cons (λ (e : Entry (List ℕ)). length e.1) e m

count_step : (same : Bool) (e : Entry (List ℕ)) (m n : Entries (List ℕ)) (value : List ℕ) → value_count n ≡ value_count m + 1 → value_count (if same then (e.0, e.1 ++ value ∷ []) ∷ m else e ∷ n) ≡ value_count (e ∷ m) + 1
count_step true e m n value more = omega (arith, count_cons (e.0, e.1 ++ value ∷ []) m, count_cons e m, length-append e.1 (value ∷ []))
count_step false e m n value more = omega (arith, count_cons e n, count_cons e m)

append_count : (m : Entries (List ℕ)) (name value : List ℕ) → value_count (append m name value) ≡ value_count m + 1
append_count [] name value = refl
append_count (e ∷ m) name value = count_step (bytes_eq e.0 name) e m (append m name value) value (append_count m name value)

new_header : (name value : List ℕ) → length name ≤ 64 → length value ≤ 1024 → IsHeader (name, value ∷ [])
new_header name value n v = record { name = n; values = All-cons (λ v. length v ≤ 1024) value [] v (All-nil (λ v. length v ≤ 1024)) }

more_values : (e : Entry (List ℕ)) (value : List ℕ) → IsHeader e → length value ≤ 1024 → IsHeader (e.0, e.1 ++ value ∷ [])
more_values e value is v = record { name = is.name; values = All-push (λ v. length v ≤ 1024) e.1 value is.values v }

short_step : (same : Bool) (e : Entry (List ℕ)) (m n : Entries (List ℕ)) (value : List ℕ) → length value ≤ 1024 → All IsHeader (e ∷ m) → All IsHeader n → All IsHeader (if same then (e.0, e.1 ++ value ∷ []) ∷ m else e ∷ n)
short_step true e m n value v all rest = All-cons IsHeader (e.0, e.1 ++ value ∷ []) m (more_values e value (All-head IsHeader e m all) v) (All-tail IsHeader e m all)
short_step false e m n value v all rest = All-cons IsHeader e n (All-head IsHeader e m all) rest

append_short : (m : Entries (List ℕ)) (name value : List ℕ) → length name ≤ 64 → length value ≤ 1024 → All IsHeader m → All IsHeader (append m name value)
append_short [] name value n v all = All-cons IsHeader (name, value ∷ []) [] (new_header name value n v) (All-nil IsHeader)
append_short (e ∷ m) name value n v all = short_step (bytes_eq e.0 name) e m (append m name value) value v all (append_short m name value n v (All-tail IsHeader e m all))

all_count : (m : Entries (List ℕ)) (headers : List (List ℕ × List ℕ)) → value_count (append_all m headers) ≡ value_count m + length headers
all_count m [] = grind arith
all_count m (h ∷ headers) = omega (arith, all_count (append m h.0 h.1) headers, append_count m h.0 h.1)

all_short : (m : Entries (List ℕ)) (headers : List (List ℕ × List ℕ)) → All IsShort headers → All IsHeader m → All IsHeader (append_all m headers)
all_short m [] short all = all
all_short m (h ∷ headers) short all =
    let this = All-head IsShort h headers short in
    all_short (append m h.0 h.1) headers (All-tail IsShort h headers short) (append_short m h.0 h.1 this.name this.value all)

-- few headers, each short, are the header fields of a response
pub few_headers : (headers : List (List ℕ × List ℕ)) → length headers ≤ 64 → All IsShort headers → IsHeaders (append_all [] headers)
few_headers headers few short = record {
  few = omega (arith, all_count [] headers);
  short = all_short [] headers short (All-nil IsHeader);
}

-- no headers are the header fields of a response
pub no_headers : IsHeaders []
no_headers = few_headers [] (omega arith) (All-nil IsShort)

-- The responses of a generated script keep the limits of resources.
use Rattle.std.proofs.Common.{◌≡◌, ◌<◌, ◌≤◌, ◌+◌, ◌-◌, ◌*◌, ◌/◌, ◌%◌, ◌==◌, ◌&&◌, ℕ, Bool, List, [], cond, false, true, get_or, length, map, refl, arith, length-append}
use Rattle.std.specs.Prelude.{All, codes, nat_le}
use Rattle.std.specs.List.{list_all, range_with_len}
use Rattle.std.specs.List.Sorted.{IsStrictlyIncreasing}
use Rattle.std.proofs.lemmas.Bool.{and_parts}
use Rattle.std.proofs.lemmas.Bool.Decides.{nat_tests}
use Rattle.std.proofs.lemmas.List.Elements.{All-nil, All-weaker}
use Rattle.std.proofs.lemmas.List.FromFn.{get_or-map-range_with_len, length-map-range_with_len}
use Rattle.std.proofs.lemmas.List.Sums.{AllPass-from_list_all}
use Rattle.http_header.specs.HeaderMap.{Entries, value_count}
use Rattle.script_model.specs.ActionLimits.{IsAction}
use Rattle.script_model.specs.ResourceData.{IsCuts, IsHeader, IsHeaders, IsResource}
use Rattle.script_gen.specs.Generated.{body, body_front, body_size, cuts, fields, letter, plain_response, response_resource, response_url, sniffed_fields, typed_fields}
use Rattle.script_gen.proofs.OwnUrls.{response_is_web}
use Rattle.script_gen.proofs.Ranges.{at_range}

-- the limits of headers, as tests
abbrev is_short : List ℕ → Bool
is_short value = nat_le (length value) 1024

abbrev is_header : List ℕ × List (List ℕ) → Bool
is_header header = nat_le (length header.0) 64 && list_all is_short header.1

abbrev are_headers : Entries (List ℕ) → Bool
are_headers fields = nat_le (value_count fields) 64 && list_all is_header fields

at_most : (n most : ℕ) → nat_le n most ≡ true → n ≤ most
at_most n most is = grind (arith, nat_tests)

header_by : (header : List ℕ × List (List ℕ)) → is_header header ≡ true → IsHeader header
header_by header is =
    let parts = and_parts (nat_le (length header.0) 64) (list_all is_short header.1) is in
    record {
      name = at_most (length header.0) 64 parts.0;
      values = All-weaker (λ value. is_short value ≡ true) (λ value. length value ≤ 1024) (λ value short. at_most (length value) 1024 short) header.1 (AllPass-from_list_all is_short header.1 parts.1);
    }

headers_by : (fields : Entries (List ℕ)) → are_headers fields ≡ true → IsHeaders fields
headers_by fields are =
    let parts = and_parts (nat_le (value_count fields) 64) (list_all is_header fields) are in
    record {
      few = at_most (value_count fields) 64 parts.0;
      short = All-weaker (λ header. is_header header ≡ true) IsHeader header_by fields (AllPass-from_list_all is_header fields parts.1);
    }

all_headers : list_all are_headers (map fields (range_with_len 0 32)) ≡ true
unfolding fields sniffed_fields typed_fields
all_headers = refl

front_by : (html json : Bool) → length (cond html (codes "<html>") (cond json (codes "{\"a\":") [])) ≤ 6
front_by true json = omega arith
front_by false true = omega arith
front_by false false = omega arith

front_length : (response : ℕ) → length (body_front response) ≤ 6
unfolding body_front
front_length response = front_by (response % 5 == 0) (response % 5 == 1)

body_length : (response : ℕ) → length (body response) ≡ body_size response
unfolding body
body_length response =
    let front = front_length response in
    let place = body_size response - length (body_front response) in
    omega (arith, length-append (body_front response) (map letter (range_with_len (length (body_front response)) place)), length-map-range_with_len letter (length (body_front response)) place)

-- how many cuts there are
abbrev cut_count : ℕ → ℕ
cut_count response = (body_size response - 1) / 256

cuts_length : (response : ℕ) → length (cuts response) ≡ cut_count response
unfolding cuts
cuts_length response = length-map-range_with_len (λ piece. 256 * piece) 1 (cut_count response)

cut_at : (response k d : ℕ) → k < cut_count response → get_or (cuts response) k d ≡ 256 * (1 + k)
unfolding cuts
cut_at response k d within = get_or-map-range_with_len (λ piece. 256 * piece) 1 (cut_count response) k (1 + k) d within refl

cuts_rise : (response : ℕ) → IsStrictlyIncreasing (cuts response)
cuts_rise response = λ k within.
    let there : k + 1 < cut_count response = omega (arith, within, cuts_length response) in
    omega (arith, cut_at response k 0 (omega arith), cut_at response (k + 1) 0 there)

cuts_within : (response : ℕ) → All (λ cut. (0 < cut) × (cut < body_size response)) (cuts response)
cuts_within response = λ k d within.
    let there : k < cut_count response = omega (arith, within, cuts_length response) in
    let is = cut_at response k d there in
    (omega arith, omega arith)

cuts_are_kept : (response : ℕ) → response < 32 → IsCuts (length (body response)) (cuts response)
cuts_are_kept response below = rw (body_length response) (record {
  few = omega (arith, cuts_length response);
  rising = cuts_rise response;
  within = cuts_within response;
})

-- a response of a script
response_is_kept : (response : ℕ) → response < 32 → IsResource (response_resource response)
unfolding response_resource
response_is_kept response below = record {
  class = rw (response_is_web response below) refl;
  lowest_status = omega arith;
  highest_status = omega arith;
  headers = headers_by (fields response) (at_range are_headers fields 32 response all_headers below);
  short_body = omega (arith, body_length response);
  cuts = cuts_are_kept response below;
  fault = tt;
  few_actions = omega arith;
  actions = All-nil IsAction;
}

-- what has the parts of a response
pub parts_are_kept : (response : ℕ) (url : List ℕ) (named : Entries (List ℕ)) (bytes places : List ℕ) → response < 32 → url ≡ response_url response → named ≡ fields response → bytes ≡ body response → places ≡ cuts response → IsResource (plain_response url named bytes places)
unfolding response_resource
parts_are_kept response url named bytes places below u f b c = rw (u, f, b, c) (response_is_kept response below)

-- A generated script keeps the limits of scripts.
use Rattle.std.proofs.Common.{◌≡◌, ◌≢◌, ◌<◌, ℕ, Bool, not, ◌&&◌, List, [], ◌∷◌, ◌++◌, length, map, refl, sym, ◌∙◌, true, false, arith}
use Rattle.std.specs.Prelude.{All, AllPairs, bytes_eq}
use Rattle.std.specs.List.{list_all, range_with_len}
use Rattle.std.proofs.lemmas.Bool.{and_parts}
use Rattle.std.proofs.lemmas.List.{get_or-map, length-map}
use Rattle.std.proofs.lemmas.List.Elements.{All-append, All-map, All-nil, All-weaker}
use Rattle.std.proofs.lemmas.List.Kept.{AllPairs-cons}
use Rattle.std.proofs.lemmas.List.Sums.{AllPass-from_list_all}
use Rattle.std.proofs.lemmas.Slice.Eq.{bytes_eq-Decides}
use Rattle.url.proofs.OnLiterals.{url_on_literals}
use Rattle.page_origin.specs.PageUrls.{class_of, key_of}
use Rattle.page_origin.specs.declared.class.UrlClass.TheVariants.{Web}
use Rattle.script_model.specs.ActionLimits.{IsActionAmong}
use Rattle.script_model.specs.ResourceData.{ResourceData}
use Rattle.script_model.specs.ScriptData.{IsScript, resource_key}
use Rattle.script_gen.specs.Draws.{draws}
use Rattle.script_gen.specs.Generated.{frame_resource, frame_url, generated, page_resource, page_url, resources, response_resource, response_url}
use Rattle.script_gen.proofs.DocumentLimits.{frame_among, page_among}
use Rattle.script_gen.proofs.OwnUrls.{page_is_web}
use Rattle.script_gen.proofs.Ranges.{all_range}

-- no two of these are the same
abbrev are_apart : List (List ℕ) → Bool
are_apart [] = true
are_apart (key ∷ keys) = list_all (λ other. not (bytes_eq key other)) keys && are_apart keys

differ_by : (key other : List ℕ) (same : Bool) → bytes_eq key other ≡ same → not same ≡ true → key ≢ other
differ_by key other true is unlike = absurd (cc)
differ_by key other false is unlike = λ same. let equal = (bytes_eq-Decides key other).1 same in absurd (cc)

differ : (key other : List ℕ) → not (bytes_eq key other) ≡ true → key ≢ other
differ key other unlike = differ_by key other (bytes_eq key other) refl unlike

pairs_by : (keys : List (List ℕ)) → are_apart keys ≡ true → AllPairs (λ a b. a ≢ b) keys
pairs_by [] apart = λ i j d below within. absurd (omega arith)
pairs_by (key ∷ keys) apart =
    let parts = and_parts (list_all (λ other. not (bytes_eq key other)) keys) (are_apart keys) apart in
    AllPairs-cons (λ a b. a ≢ b) key keys (All-weaker (λ other. not (bytes_eq key other) ≡ true) (λ other. key ≢ other) (differ key) keys (AllPass-from_list_all (λ other. not (bytes_eq key other)) keys parts.0)) (pairs_by keys parts.1)

pairs_of : (rs : List ResourceData) → AllPairs (λ a b. a ≢ b) (map resource_key rs) → AllPairs (λ a b. resource_key a ≢ resource_key b) rs
pairs_of rs pairs = λ i j d below within.
    let inside : j < length (map resource_key rs) = omega (arith, length-map rs resource_key) in
    let apart = pairs i j [] below inside in
    λ same. apart (get_or-map resource_key rs i d [] (omega arith) ∙ same ∙ sym (get_or-map resource_key rs j d [] within))

keys_are_apart : (all : List ℕ) → are_apart (map resource_key (resources all)) ≡ true
unfolding url_on_literals resources page_resource frame_resource response_resource page_url frame_url response_url key_of
keys_are_apart all = refl

resource_count : (all : List ℕ) → length (resources all) ≡ 48
unfolding resources
resource_count all = refl

response_among : (count response : ℕ) → All (IsActionAmong count) (response_resource response).actions
unfolding response_resource
response_among count response = All-nil (IsActionAmong count)

among : (count : ℕ) (all : List ℕ) → All (λ (r : ResourceData). All (IsActionAmong count) r.actions) (resources all)
unfolding resources
among count all =
    let P : ResourceData → Type 0 = λ r. All (IsActionAmong count) r.actions in
    All-append P (map (page_resource all) (range_with_len 0 8) ++ map (frame_resource all) (range_with_len 0 8)) (map response_resource (range_with_len 0 32))
    (All-append P (map (page_resource all) (range_with_len 0 8)) (map (frame_resource all) (range_with_len 0 8))
    (All-map P (page_resource all) (range_with_len 0 8) (λ k d within. page_among count _ all))
    (All-map P (frame_resource all) (range_with_len 0 8) (λ k d within. frame_among count _ all)))
    (All-map P response_resource (range_with_len 0 32) (λ k d within. response_among count _))

web_pages : All (λ url. class_of url ≡ Web) (map page_url (range_with_len 0 8))
web_pages = All-map (λ url. class_of url ≡ Web) page_url (range_with_len 0 8) (all_range (λ page. class_of (page_url page) ≡ Web) 8 page_is_web)

-- the script of a number
pub script_is_kept : (number : ℕ) → IsScript (generated number)
unfolding generated
script_is_kept number =
    let all = draws number 920 in
    record {
      low_limit = omega arith;
      few_pages = omega (arith, length-map (range_with_len 0 8) page_url);
      web_pages = web_pages;
      few_resources = omega (arith, resource_count all);
      distinct = pairs_of (resources all) (pairs_by (map resource_key (resources all)) (keys_are_apart all));
      among = among (length (resources all)) all;
    }

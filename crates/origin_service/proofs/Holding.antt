-- A map of keys that is changed as a request asks has what the requests with this one leave.
use Rattle.std.proofs.Common.{ap, arith, refl, subst, sym, ◌∙◌}
use Rattle.std.proofs.lemmas.List.Elements.{filter_map-append}
use Rattle.std.proofs.lemmas.Map.Text.{btree_map_updates_text}
use Rattle.std.specs.BTreeMap.{BTreeMap, IsEmpty, IsUnchanged, Updates, UpdatesBy, btree_map_len, get_by_text}
use Rattle.std.specs.Cmp.Lexicographic.{slice_cmp}
use Rattle.std.specs.Global.{Global}
use Rattle.std.specs.Option.{option_map}
use Rattle.std.specs.List.{cons_option}
use Rattle.std.specs.Map.{lookup}
use Rattle.std.specs.Ordering.{is_eq, nat_cmp}
use Rattle.std.specs.Prelude.{◌≡◌, ◌+◌, ◌++◌, ◌∷◌, [], if◌then◌else◌, Bool, List, None, Option, Some, String, bytes_eq, cond, false, is_some, length, string_bytes, true, unwrap_or, ℕ}
use Rattle.std.specs.String.{string_cmp}
use Rattle.origin_service.proofs.KeyChanges.{count_get, count_remove, count_set, value_more}
use Rattle.origin_service.specs.Shelves.{Holds}
use Rattle.service_rule.specs.KeyRequests.{store_requests}
use Rattle.service_rule.specs.Store.{GetKey, RemoveKey, SetKey, StoreRequest, key_count, store_request, value_of}
use Rattle.service_rule.specs.declared.service.Asked.{Asked}

some_map : {A B : Type 0} (f : A → B) (a : Option A) → is_some (option_map f a) ≡ is_some a
some_map f None = refl
some_map f (Some x) = refl

-- the key is there in the map where it is by the requests
same_presence : (keys : BTreeMap (String Global) (String Global)) (earlier : List StoreRequest) (key : List ℕ) → Holds keys earlier → is_some (get_by_text keys key) ≡ is_some (value_of earlier key)
same_presence keys earlier key holds = sym (some_map string_bytes (get_by_text keys key)) ∙ ap is_some (holds.values key)

set_by_test : (t : Bool) (value : String Global) (a : Option (String Global)) (b : Option (List ℕ)) → option_map string_bytes a ≡ b
    → option_map string_bytes (cond t (Some value) a) ≡ unwrap_or (if t then Some (Some (string_bytes value)) else None) b
set_by_test true value a b e = refl
set_by_test false value a b e = e

remove_by_test : (t : Bool) (a : Option (String Global)) (b : Option (List ℕ)) → option_map string_bytes a ≡ b
    → option_map string_bytes (cond t None a) ≡ unwrap_or (if t then Some None else None) b
remove_by_test true a b e = refl
remove_by_test false a b e = e

pub holds_set : (old new : BTreeMap (String Global) (String Global)) (key value : String Global) (earlier : List StoreRequest)
    → Updates string_cmp old new key (Some value)
    → btree_map_len new ≡ btree_map_len old + (if is_some (get_by_text old (string_bytes key)) then 0 else 1)
    → Holds old earlier → Holds new (earlier ++ SetKey (string_bytes key) (string_bytes value) ∷ [])
holds_set old new key value earlier updates len holds = record {
  values = λ k. ap (option_map string_bytes) (btree_map_updates_text (string_bytes key) old new (Some value) updates k)
      ∙ set_by_test (bytes_eq (string_bytes key) k) value (get_by_text old k) (value_of earlier k) (holds.values k)
      ∙ sym (value_more earlier (SetKey (string_bytes key) (string_bytes value)) k);
  count = len
      ∙ ap (λ b. btree_map_len old + (if b then 0 else 1)) (same_presence old earlier (string_bytes key) holds)
      ∙ ap (λ n. n + (if is_some (value_of earlier (string_bytes key)) then 0 else 1)) holds.count
      ∙ sym (count_set (string_bytes key) (string_bytes value) earlier);
}

-- the same, where the key and the value have these bytes
pub holds_set_text : (old new : BTreeMap (String Global) (String Global)) (key value : String Global) (k v : List ℕ) (earlier : List StoreRequest)
    → string_bytes key ≡ k → string_bytes value ≡ v
    → Updates string_cmp old new key (Some value)
    → btree_map_len new ≡ btree_map_len old + (if is_some (get_by_text old (string_bytes key)) then 0 else 1)
    → Holds old earlier → Holds new (earlier ++ SetKey k v ∷ [])
holds_set_text old new key value k v earlier same_key same_value updates len holds =
    subst (λ (e : StoreRequest). Holds new (earlier ++ e ∷ []))
    (ap (λ x. SetKey x (string_bytes value)) same_key ∙ ap (λ y. SetKey k y) same_value)
    (holds_set old new key value earlier updates len holds)

pub holds_remove : (old new : BTreeMap (String Global) (String Global)) (key : List ℕ) (earlier : List StoreRequest)
    → UpdatesBy string_cmp (λ k. slice_cmp nat_cmp key (string_bytes k)) old new None
    → btree_map_len new + (if is_some (get_by_text old key) then 1 else 0) ≡ btree_map_len old
    → Holds old earlier → Holds new (earlier ++ RemoveKey key ∷ [])
holds_remove old new key earlier updates len holds =
    let there : is_some (get_by_text old key) ≡ is_some (value_of earlier key) = same_presence old earlier key holds in
    let less : btree_map_len new + (if is_some (value_of earlier key) then 1 else 0) ≡ key_count earlier = ap (λ b. btree_map_len new + (if b then 1 else 0)) (sym there) ∙ len ∙ holds.count in
    let counted : key_count (earlier ++ RemoveKey key ∷ []) + (if is_some (value_of earlier key) then 1 else 0) ≡ key_count earlier = count_remove key earlier in
    record {
      values = λ k. ap (option_map string_bytes) (btree_map_updates_text key old new None updates k)
          ∙ remove_by_test (bytes_eq key k) (get_by_text old k) (value_of earlier k) (holds.values k)
          ∙ sym (value_more earlier (RemoveKey key) k);
      count = omega arith;
    }

pub holds_get : (keys : BTreeMap (String Global) (String Global)) (key : List ℕ) (earlier : List StoreRequest) → Holds keys earlier → Holds keys (earlier ++ GetKey key ∷ [])
holds_get keys key earlier holds = record {
  values = λ k. holds.values k ∙ sym (value_more earlier (GetKey key) k);
  count = holds.count ∙ sym (count_get key earlier);
}

pub holds_unchanged : (old new : BTreeMap (String Global) (String Global)) (earlier : List StoreRequest) → IsUnchanged old new → Holds old earlier → Holds new earlier
holds_unchanged old new earlier same holds = record {
  values = λ k. ap (λ es. option_map string_bytes (lookup (λ key. is_eq (slice_cmp nat_cmp k (string_bytes key))) es)) same ∙ holds.values k;
  count = ap length same ∙ holds.count;
}

-- no keys and no requests
pub holds_nothing : (keys : BTreeMap (String Global) (String Global)) (kept : List Asked) → IsEmpty keys → kept ≡ [] → Holds keys (store_requests kept)
unfolding value_of key_count
holds_nothing keys kept empty none = record {
  values = λ k. ap (λ es. option_map string_bytes (lookup (λ key. is_eq (slice_cmp nat_cmp k (string_bytes key))) es)) empty ∙ ap (λ xs. value_of (store_requests xs) k) (sym none);
  count = ap length empty ∙ ap (λ xs. key_count (store_requests xs)) (sym none);
}

one_more : (next : Option StoreRequest) (r : StoreRequest) → next ≡ Some r → cons_option next [] ≡ r ∷ []
one_more next r e = ap (λ o. cons_option o []) e

-- one request more that is read so
pub requests_more : (kept : List Asked) (asked : Asked) (r : StoreRequest) → store_request asked.request ≡ Some r → store_requests (kept ++ asked ∷ []) ≡ store_requests kept ++ r ∷ []
requests_more kept asked r e = filter_map-append (λ a. store_request a.request) kept (asked ∷ []) ∙ ap (λ xs. store_requests kept ++ xs) (one_more (store_request asked.request) r e)

pub holds_more : (keys : BTreeMap (String Global) (String Global)) (kept more : List Asked) (asked : Asked) (r : StoreRequest) → more ≡ kept ++ asked ∷ [] → store_request asked.request ≡ Some r
    → Holds keys (store_requests kept ++ r ∷ []) → Holds keys (store_requests more)
holds_more keys kept more asked r e is holds = subst (λ (rs : List StoreRequest). Holds keys rs) (sym (ap store_requests e ∙ requests_more kept asked r is)) holds

-- the same requests
pub holds_same : (old new : BTreeMap (String Global) (String Global)) (kept more : List Asked) → IsUnchanged old new → more ≡ kept → Holds old (store_requests kept) → Holds new (store_requests more)
holds_same old new kept more same e holds = subst (λ (xs : List Asked). Holds new (store_requests xs)) (sym e) (holds_unchanged old new (store_requests kept) same holds)

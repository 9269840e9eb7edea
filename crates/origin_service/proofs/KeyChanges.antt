-- What a map has to have after one request more: values and how many keys there are.
use Rattle.std.proofs.Common.{◌⊎◌, ap, arith, inl, inr, refl, subst, sym, ◌∙◌}
use Rattle.std.proofs.lemmas.Slice.Eq.{bytes_eq-Decides}
use Rattle.std.specs.Option.{option_flatten, option_or}
use Rattle.std.specs.Prelude.{◌≡◌, ◌+◌, ◌++◌, ◌∷◌, [], if◌then◌else◌, Bool, List, None, Option, Some, bytes_eq, false, is_none, is_some, true, unwrap_or, ℕ}
use Rattle.service_rule.specs.Store.{GetKey, RemoveKey, SetKey, StoreRequest, key_count, last_left, leaves, value_of}

or_none : {A : Type 0} (a : Option A) → option_or a None ≡ a
or_none None = refl
or_none (Some x) = refl

or_assoc : {A : Type 0} (a b c : Option A) → option_or (option_or a b) c ≡ option_or a (option_or b c)
or_assoc None b c = refl
or_assoc (Some x) b c = refl

left_more : (key : List ℕ) (earlier : List StoreRequest) (r : StoreRequest) → last_left key (earlier ++ r ∷ []) ≡ option_or (leaves key r) (last_left key earlier)
left_more key [] r = sym (or_none (leaves key r))
left_more key (e ∷ earlier) r = ap (λ o. option_or o (leaves key e)) (left_more key earlier r) ∙ or_assoc (leaves key r) (last_left key earlier) (leaves key e)

flatten_or : {A : Type 0} (a b : Option (Option A)) → option_flatten (option_or a b) ≡ unwrap_or a (option_flatten b)
flatten_or None b = refl
flatten_or (Some x) b = refl

-- the value of a key, one request later
pub value_more : (earlier : List StoreRequest) (r : StoreRequest) (key : List ℕ) → value_of (earlier ++ r ∷ []) key ≡ unwrap_or (leaves key r) (value_of earlier key)
unfolding value_of
value_more earlier r key = ap option_flatten (left_more key earlier r) ∙ flatten_or (leaves key r) (last_left key earlier)

apart_by : (a b : List ℕ) (t u : Bool) → bytes_eq a b ≡ t → bytes_eq b a ≡ u → (a ≡ b) ⊎ ((bytes_eq a b ≡ false) × (bytes_eq b a ≡ false))
apart_by a b true u e f = inl ((bytes_eq-Decides a b).0 e)
apart_by a b false true e f = inl (sym ((bytes_eq-Decides b a).0 f))
apart_by a b false false e f = inr (e, f)

same_or_apart : (a b : List ℕ) → (a ≡ b) ⊎ ((bytes_eq a b ≡ false) × (bytes_eq b a ≡ false))
same_or_apart a b = apart_by a b (bytes_eq a b) (bytes_eq b a) refl refl

same_bytes : (a : List ℕ) → bytes_eq a a ≡ true
same_bytes a = (bytes_eq-Decides a a).1 refl

-- a later set of the same key takes the place of an earlier one
set_again : (n m : ℕ) (left : Option (Option (List ℕ))) (value : List ℕ) → m ≡ n + (if is_some (option_flatten left) then 0 else 1)
    → 0 + m ≡ ((if is_none left then 1 else 0) + n) + (if is_some (option_flatten (option_or left (Some (Some value)))) then 0 else 1)
set_again n m None value e = omega arith
set_again n m (Some None) value e = omega arith
set_again n m (Some (Some v)) value e = omega arith

-- what stands before leaves the value where something later does, or leaves none
set_after_remove : (left : Option (Option (List ℕ))) → option_flatten (option_or left (Some None)) ≡ option_flatten left
set_after_remove None = refl
set_after_remove (Some x) = refl

remove_again : (n m : ℕ) (left : Option (Option (List ℕ))) (value : List ℕ) → m + (if is_some (option_flatten left) then 1 else 0) ≡ n
    → (0 + m) + (if is_some (option_flatten (option_or left (Some (Some value)))) then 1 else 0) ≡ (if is_none left then 1 else 0) + n
remove_again n m None value e = omega arith
remove_again n m (Some None) value e = omega arith
remove_again n m (Some (Some v)) value e = omega arith

-- a first request that leaves nothing, or none, under the key
set_after : (n m : ℕ) (left own : Option (Option (List ℕ))) → option_flatten own ≡ None → m ≡ n + (if is_some (option_flatten left) then 0 else 1)
    → m ≡ n + (if is_some (option_flatten (option_or left own)) then 0 else 1)
set_after n m None own none e = rw none e
set_after n m (Some x) own none e = e

remove_after : (n m : ℕ) (left own : Option (Option (List ℕ))) → option_flatten own ≡ None → m + (if is_some (option_flatten left) then 1 else 0) ≡ n
    → m + (if is_some (option_flatten (option_or left own)) then 1 else 0) ≡ n
remove_after n m None own none e = rw none e
remove_after n m (Some x) own none e = e

removed_left : (t : Bool) → option_flatten {T = List ℕ} (if t then Some None else None) ≡ None
removed_left true = refl
removed_left false = refl

set_on_set : (key value k v : List ℕ) (earlier : List StoreRequest) → key_count (earlier ++ SetKey key value ∷ []) ≡ key_count earlier + (if is_some (value_of earlier key) then 0 else 1)
    → (k ≡ key) ⊎ ((bytes_eq k key ≡ false) × (bytes_eq key k ≡ false))
    → key_count ((SetKey k v ∷ earlier) ++ SetKey key value ∷ []) ≡ key_count (SetKey k v ∷ earlier) + (if is_some (value_of (SetKey k v ∷ earlier) key) then 0 else 1)
unfolding key_count value_of
set_on_set key value k v earlier e (inl same) =
    subst (λ (j : List ℕ). (if is_none (last_left j (earlier ++ SetKey key value ∷ [])) then 1 else 0) + key_count (earlier ++ SetKey key value ∷ [])
    ≡ ((if is_none (last_left j earlier) then 1 else 0) + key_count earlier) + (if is_some (option_flatten (option_or (last_left key earlier) (if bytes_eq j key then Some (Some v) else None))) then 0 else 1))
    (sym same)
    (rw (left_more key earlier (SetKey key value), same_bytes key) (set_again (key_count earlier) (key_count (earlier ++ SetKey key value ∷ [])) (last_left key earlier) v e))
set_on_set key value k v earlier e (inr apart) = rw (left_more k earlier (SetKey key value), apart.0, apart.1, or_none (last_left key earlier)) (omega arith)

remove_on_set : (key k v : List ℕ) (earlier : List StoreRequest) → key_count (earlier ++ RemoveKey key ∷ []) + (if is_some (value_of earlier key) then 1 else 0) ≡ key_count earlier
    → (k ≡ key) ⊎ ((bytes_eq k key ≡ false) × (bytes_eq key k ≡ false))
    → key_count ((SetKey k v ∷ earlier) ++ RemoveKey key ∷ []) + (if is_some (value_of (SetKey k v ∷ earlier) key) then 1 else 0) ≡ key_count (SetKey k v ∷ earlier)
unfolding key_count value_of
remove_on_set key k v earlier e (inl same) =
    subst (λ (j : List ℕ). ((if is_none (last_left j (earlier ++ RemoveKey key ∷ [])) then 1 else 0) + key_count (earlier ++ RemoveKey key ∷ []))
    + (if is_some (option_flatten (option_or (last_left key earlier) (if bytes_eq j key then Some (Some v) else None))) then 1 else 0)
    ≡ (if is_none (last_left j earlier) then 1 else 0) + key_count earlier)
    (sym same)
    (rw (left_more key earlier (RemoveKey key), same_bytes key) (remove_again (key_count earlier) (key_count (earlier ++ RemoveKey key ∷ [])) (last_left key earlier) v e))
remove_on_set key k v earlier e (inr apart) = rw (left_more k earlier (RemoveKey key), apart.0, apart.1, or_none (last_left key earlier)) (omega arith)

-- one more set: one more key, unless the key was there
pub count_set : (key value : List ℕ) (earlier : List StoreRequest) → key_count (earlier ++ SetKey key value ∷ []) ≡ key_count earlier + (if is_some (value_of earlier key) then 0 else 1)
unfolding key_count value_of
count_set key value [] = refl
count_set key value (GetKey k ∷ earlier) = set_after (0 + key_count earlier) (0 + key_count (earlier ++ SetKey key value ∷ [])) (last_left key earlier) None refl (let e = count_set key value earlier in omega arith)
count_set key value (RemoveKey k ∷ earlier) = set_after (0 + key_count earlier) (0 + key_count (earlier ++ SetKey key value ∷ [])) (last_left key earlier) (leaves key (RemoveKey k)) (removed_left (bytes_eq k key)) (let e = count_set key value earlier in omega arith)
count_set key value (SetKey k v ∷ earlier) = set_on_set key value k v earlier (count_set key value earlier) (same_or_apart k key)

-- one more remove: one key less, if the key was there
pub count_remove : (key : List ℕ) (earlier : List StoreRequest) → key_count (earlier ++ RemoveKey key ∷ []) + (if is_some (value_of earlier key) then 1 else 0) ≡ key_count earlier
unfolding key_count value_of
count_remove key [] = refl
count_remove key (GetKey k ∷ earlier) = remove_after (0 + key_count earlier) (0 + key_count (earlier ++ RemoveKey key ∷ [])) (last_left key earlier) None refl (let e = count_remove key earlier in omega arith)
count_remove key (RemoveKey k ∷ earlier) = remove_after (0 + key_count earlier) (0 + key_count (earlier ++ RemoveKey key ∷ [])) (last_left key earlier) (leaves key (RemoveKey k)) (removed_left (bytes_eq k key)) (let e = count_remove key earlier in omega arith)
count_remove key (SetKey k v ∷ earlier) = remove_on_set key k v earlier (count_remove key earlier) (same_or_apart k key)

-- one more get changes no key
pub count_get : (key : List ℕ) (earlier : List StoreRequest) → key_count (earlier ++ GetKey key ∷ []) ≡ key_count earlier
unfolding key_count
count_get key [] = refl
count_get key (GetKey k ∷ earlier) = ap (λ n. 0 + n) (count_get key earlier)
count_get key (RemoveKey k ∷ earlier) = ap (λ n. 0 + n) (count_get key earlier)
count_get key (SetKey k v ∷ earlier) = rw (left_more k earlier (GetKey key)) (ap (λ n. (if is_none (last_left k earlier) then 1 else 0) + n) (count_get key earlier))

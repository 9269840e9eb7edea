-- The last URL of a chain.
use Rattle.std.proofs.Common.{ap, ◌∙◌, arith, refl}
use Rattle.std.specs.Prelude.{◌≡◌, ◌-◌, ◌∷◌, [], List, None, Option, Some, filter_map, length, slice_get, unwrap_or, ℕ}
use Rattle.std.specs.List.{cons_option, last_or}
use Rattle.std.specs.Option.{option_or}
use Rattle.history_entry.specs.declared.entry.Entry.{Entry}
use Rattle.history_rules.specs.Entries.{last_match}
use Rattle.history_rules.specs.Redirects.{last_url}

last_some : {X : Type 0} (x : X) (xs : List X) → last_or (Some x) xs ≡ slice_get (x ∷ xs) (length xs)
last_some x [] = refl
last_some x (y ∷ xs) = last_some y xs

pub last_is : {X : Type 0} (xs : List X) → last_or None xs ≡ slice_get xs (length xs - 1)
last_is [] = refl
last_is (x ∷ xs) = let same : length xs ≡ length (x ∷ xs) - 1 = omega arith in last_some x xs ∙ ap (slice_get (x ∷ xs)) same

-- the last URL is that at the last place
pub last_url_is : (chain : List (List ℕ)) → last_url chain ≡ unwrap_or (slice_get chain (length chain - 1)) []
last_url_is chain = ap (λ o. unwrap_or o []) (last_is chain)

none_between : (last : Option (List ℕ)) (first : List ℕ) → option_or last (Some first) ≡ option_or (option_or last None) (Some first)
none_between None first = refl
none_between (Some url) first = refl

some_between : (last : Option (List ℕ)) (url first : List ℕ) → option_or last (Some url) ≡ option_or (option_or last (Some url)) (Some first)
some_between None url first = refl
some_between (Some other) url first = refl

last_step : (f : Entry → Option (List ℕ)) (h : List Entry) → ((first : List ℕ) → last_or (Some first) (filter_map f h) ≡ option_or (last_match f h) (Some first)) → (first : List ℕ) (o : Option (List ℕ)) → last_or (Some first) (cons_option o (filter_map f h)) ≡ option_or (option_or (last_match f h) o) (Some first)
last_step f h before first None = before first ∙ none_between (last_match f h) first
last_step f h before first (Some url) = before url ∙ some_between (last_match f h) url first

-- the last of a list behind a first: the last that f gives, or the first
last_by : (f : Entry → Option (List ℕ)) (h : List Entry) (first : List ℕ) → last_or (Some first) (filter_map f h) ≡ option_or (last_match f h) (Some first)
last_by f [] first = refl
last_by f (e ∷ h) first = last_step f h (last_by f h) first (f e)

-- the last URL of a chain of a first URL and redirects: that of the last redirect, or the first
pub last_of_chain : (f : Entry → Option (List ℕ)) (first : List ℕ) (h : List Entry) → last_url (first ∷ filter_map f h) ≡ unwrap_or (option_or (last_match f h) (Some first)) []
last_of_chain f first h = ap (λ o. unwrap_or o []) (last_by f h first)

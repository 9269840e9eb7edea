-- The first of lists behind one another, and of what a loop gives.
use Rattle.std.proofs.Common.{◌≡◌, ◌∙◌, ◌+◌, ◌-◌, ◌<◌, ◌++◌, ◌∷◌, [], List, None, Option, Some, ap, refl, sym, ℕ}
use Rattle.std.specs.Prelude.{filter_map, slice_get}
use Rattle.std.specs.List.{cons_option, flat_map, range_with_len}
use Rattle.std.specs.Option.{option_map, option_or, option_to_list}
use Rattle.history_entry.specs.declared.entry.Entry.{Entry}
use Rattle.script_model.specs.ScriptData.{ScriptData}
use Rattle.history_steps.specs.MayFollow.{open_next, warm_next}
use Rattle.history_steps.specs.Nexts.{commit_nexts, crash_nexts, end_navigation_nexts, end_nexts, exit_nexts, head_nexts, hop_nexts, local_nexts, order_nexts, piece_nexts}
use Rattle.request_facts.proofs.Posts.{range_first}
use Rattle.browser_core.specs.Candidates.{before_messages, behind_messages, deliveries}

pub first_both : {X : Type 0} (xs ys : List X) → slice_get (xs ++ ys) 0 ≡ option_or (slice_get xs 0) (slice_get ys 0)
first_both [] ys = refl
first_both (x ∷ xs) ys = refl

first_optional : {X : Type 0} (o : Option X) → slice_get (option_to_list o) 0 ≡ o
first_optional None = refl
first_optional (Some x) = refl

or_group : {X : Type 0} (a b c : Option X) → option_or (option_or a b) c ≡ option_or a (option_or b c)
or_group None b c = refl
or_group (Some x) b c = refl

pub first_three : (s : ScriptData) (h : List Entry)
    → slice_get (deliveries s h) 0 ≡ option_or (slice_get (head_nexts s h) 0) (option_or (slice_get (piece_nexts s h) 0) (slice_get (end_nexts s h) 0))
unfolding deliveries
first_three s h =
    first_both (head_nexts s h ++ piece_nexts s h) (end_nexts s h)
    ∙ ap (λ o. option_or o (slice_get (end_nexts s h) 0)) (first_both (head_nexts s h) (piece_nexts s h))
    ∙ or_group (slice_get (head_nexts s h) 0) (slice_get (piece_nexts s h) 0) (slice_get (end_nexts s h) 0)

-- five lists behind one another
five : {X : Type 0} (a b c d e : List X)
    → slice_get (a ++ b ++ c ++ d ++ e) 0
    ≡ option_or (slice_get a 0) (option_or (slice_get b 0) (option_or (slice_get c 0) (option_or (slice_get d 0) (slice_get e 0))))
five [] [] [] [] e = refl
five [] [] [] (x ∷ d) e = refl
five [] [] (x ∷ c) d e = refl
five [] (x ∷ b) c d e = refl
five (x ∷ a) b c d e = refl

pub first_before : (s : ScriptData) (h : List Entry)
    → slice_get (before_messages s h) 0 ≡ option_or (open_next s h) (option_or (warm_next s h)
    (option_or (slice_get (hop_nexts s h) 0) (option_or (slice_get (order_nexts s h) 0) (slice_get (end_navigation_nexts s h) 0))))
unfolding before_messages
first_before s h =
    five (option_to_list (open_next s h)) (option_to_list (warm_next s h)) (hop_nexts s h) (order_nexts s h) (end_navigation_nexts s h)
    ∙ ap (λ o. option_or o (option_or (slice_get (option_to_list (warm_next s h)) 0)
    (option_or (slice_get (hop_nexts s h) 0) (option_or (slice_get (order_nexts s h) 0) (slice_get (end_navigation_nexts s h) 0)))))
    (first_optional (open_next s h))
    ∙ ap (λ o. option_or (open_next s h) (option_or o
    (option_or (slice_get (hop_nexts s h) 0) (option_or (slice_get (order_nexts s h) 0) (slice_get (end_navigation_nexts s h) 0)))))
    (first_optional (warm_next s h))

pub first_behind : (s : ScriptData) (h : List Entry)
    → slice_get (behind_messages s h) 0 ≡ option_or (slice_get (crash_nexts s h) 0) (option_or (slice_get (commit_nexts s h) 0)
    (option_or (slice_get (local_nexts s h) 0) (option_or (slice_get (deliveries s h) 0) (slice_get (exit_nexts s h) 0))))
unfolding behind_messages
first_behind s h = five (crash_nexts s h) (commit_nexts s h) (local_nexts s h) (deliveries s h) (exit_nexts s h)

given_first : {B : Type 0} (f : ℕ → List B) (i n : ℕ) → i < n → flat_map f (range_with_len i (n - i)) ≡ f i ++ flat_map f (range_with_len (i + 1) (n - (i + 1)))
given_first f i n below = ap (flat_map f) (range_first i n below)

none_of : {B : Type 0} (xs ys : List B) → None ≡ slice_get xs 0 → slice_get (xs ++ ys) 0 ≡ slice_get ys 0
none_of [] ys is = refl
none_of (x ∷ xs) ys is = absurd (cc)

some_of : {B : Type 0} (xs ys : List B) (x : B) → Some x ≡ slice_get xs 0 → slice_get (xs ++ ys) 0 ≡ Some x
some_of [] ys x is = absurd (cc)
some_of (y ∷ xs) ys x is = sym is

-- lists behind one another: the first of them is empty
pub list_passed : {B : Type 0} (f : ℕ → List B) (i n : ℕ) (wanted : Option B) → i < n → None ≡ slice_get (f i) 0
    → slice_get (flat_map f (range_with_len i (n - i))) 0 ≡ wanted → slice_get (flat_map f (range_with_len (i + 1) (n - (i + 1)))) 0 ≡ wanted
list_passed f i n wanted below none is =
    sym (none_of (f i) (flat_map f (range_with_len (i + 1) (n - (i + 1)))) none) ∙ sym (ap (λ xs. slice_get xs 0) (given_first f i n below)) ∙ is

-- the first of them has this one
pub list_found : {B : Type 0} (f : ℕ → List B) (i n : ℕ) (x : B) (wanted : Option B) → i < n → Some x ≡ slice_get (f i) 0
    → slice_get (flat_map f (range_with_len i (n - i))) 0 ≡ wanted → Some x ≡ wanted
list_found f i n x wanted below some is =
    sym (some_of (f i) (flat_map f (range_with_len (i + 1) (n - (i + 1)))) x some) ∙ sym (ap (λ xs. slice_get xs 0) (given_first f i n below)) ∙ is

-- there is none
pub list_over : {B : Type 0} (f : ℕ → List B) (i n : ℕ) (wanted : Option B) → n - i ≡ 0
    → slice_get (flat_map f (range_with_len i (n - i))) 0 ≡ wanted → None ≡ wanted
list_over f i n wanted none is = sym (ap (λ m. slice_get (flat_map f (range_with_len i m)) 0) none) ∙ is

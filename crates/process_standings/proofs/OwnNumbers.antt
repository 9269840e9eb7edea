-- Each site that was ordered has a number of its own.
use Rattle.std.proofs.Common.{ap, arith, drop, get_or, inl, inr, refl, subst, sym, ◌∙◌}
use Rattle.std.specs.Prelude.{◌≡◌, ◌⊎◌, ◌&&◌, ◌||◌, ◌<◌, ◌≤◌, ◌+◌, ◌++◌, ◌∷◌, [], Bool, List, Some, cond, false, is_some, length, not, slice_get, suc, take, true, zero, ℕ}
use Rattle.std.specs.List.{list_any, position_or_len}
use Rattle.std.specs.Option.{option_map_or}
use Rattle.std.proofs.lemmas.Bool.{cases_order}
use Rattle.std.proofs.lemmas.List.{take-append-drop, take-take, take_more}
use Rattle.std.proofs.lemmas.List.Sums.{passes_at_first}
use Rattle.page_origin.specs.Origins.{equal_sites}
use Rattle.page_origin.specs.declared.site.Site.{Site}
use Rattle.history_entry.specs.declared.entry.Entry.{Entry}
use Rattle.history_entry.specs.declared.entry.Entry.TheVariants.{Opened}
use Rattle.history_rules.proofs.Apart.{from_map_or}
use Rattle.history_rules.proofs.Equal.{site_itself, sites_same}
use Rattle.history_rules.proofs.Growth.{get_kept, match_found}
use Rattle.history_rules.specs.Orders.{lock_in}
use Rattle.history_rules.specs.Processes.{Absent, Dead, Locked, Stage, Warm, is_dead, is_locked, is_warm, lock_of, site_in, site_number, stage_of_lock, standing, warms}
use Rattle.history_steps.proofs.Locks.{lock_order, locked_to}
use Rattle.policy_table.specs.declared.standing.Standing.TheVariants as table
use Rattle.process_standings.proofs.Numbers.{locked_standing, number_kept}
use Rattle.process_standings.proofs.SiteCounts.{by_place, count_push}
use Rattle.process_standings.specs.Changing.{is_new_site, is_order_of, site_count}
use Rattle.process_standings.specs.Laws.{OneNumberASite, OneSiteANumber}
use Rattle.process_standings.specs.Standings.{numbered, table_standing}

-- ---- the first order of a site

none_by : {X : Type 0} (p : X → Bool) (x : X) (xs : List X) (k : ℕ) (b : Bool) → p x ≡ b → list_any p (take k xs) ≡ false → list_any p (take (cond (not b) (1 + k) 0) (x ∷ xs)) ≡ false
none_by p x xs k true is none = refl
none_by p x xs k false is none =
    let next : 1 + k ≡ suc k = omega arith in
    ap (λ n. list_any p (take n (x ∷ xs))) next ∙ ap (λ b. b || list_any p (take k xs)) is ∙ none

none_before : {X : Type 0} (p : X → Bool) (xs : List X) → list_any p (take (position_or_len p xs) xs) ≡ false
none_before p [] = refl
none_before p (x ∷ xs) = none_by p x xs (position_or_len p xs) (p x) refl (none_before p xs)

first_by : {X : Type 0} (p : X → Bool) (x : X) (xs : List X) (b : Bool) → p x ≡ b → position_or_len p xs < length xs → cond (not b) (1 + position_or_len p xs) 0 < length (x ∷ xs)
first_by p x xs true is lt = omega arith
first_by p x xs false is lt = omega arith

first_within : {X : Type 0} (p : X → Bool) (xs : List X) (i : ℕ) (x : X) → slice_get xs i ≡ Some x → p x ≡ true → position_or_len p xs < length xs
first_within p [] i x at passes = absurd (cc)
first_within p (y ∷ xs) zero x at passes =
    let same : y ≡ x = cc in
    let here : position_or_len p (y ∷ xs) ≡ 0 = ap (λ b. cond (not b) (1 + position_or_len p xs) 0) (ap p same ∙ passes) in
    omega (arith, here)
first_within p (y ∷ xs) (suc i) x at passes = first_by p y xs (p y) refl (first_within p xs i x at passes)

-- the site of an order of this site
order_site : (site : Site) (e : Entry) → is_order_of site e ≡ true → site_in e ≡ Some site
order_site site e is =
    let a = from_map_or (equal_sites site) (site_in e) is in
    a.1 ∙ ap (λ x. Some x) (sym (sites_same site a.0 a.2))

site_order : (site : Site) (e : Entry) → site_in e ≡ Some site → is_order_of site e ≡ true
site_order site e is = ap (λ o. option_map_or (equal_sites site) o false) is ∙ site_itself site

first_is_new : (h : List Entry) (site : Site) (e : Entry) → is_order_of site e ≡ true → list_any (is_order_of site) h ≡ false → is_new_site h e ≡ true
first_is_new h site e is none =
    ap (λ o. option_map_or (λ (x : Site). not (list_any (is_order_of x) h)) o false) (order_site site e is) ∙ ap not none

-- ---- sites are counted up

counts_grow : (g k : List Entry) → site_count g ≤ site_count (g ++ k)
counts_grow g [] = let same : site_count (g ++ []) ≡ site_count g = ap site_count (append_nothing g) in omega arith
  where
    append_nothing : {X : Type 0} (xs : List X) → xs ++ [] ≡ xs
    append_nothing [] = refl
    append_nothing (x ∷ xs) = ap (λ ys. x ∷ ys) (append_nothing xs)
counts_grow g (e ∷ k) =
    let one = count_push g e in
    let more : site_count (g ++ e ∷ []) ≤ site_count ((g ++ e ∷ []) ++ k) = counts_grow (g ++ e ∷ []) k in
    let same : site_count ((g ++ e ∷ []) ++ k) ≡ site_count (g ++ e ∷ k) = ap site_count (regroup g e k) in
    omega (arith, one, more, same)
  where
    regroup : {X : Type 0} (xs : List X) (x : X) (ys : List X) → (xs ++ x ∷ []) ++ ys ≡ xs ++ x ∷ ys
    regroup [] x ys = refl
    regroup (z ∷ xs) x ys = ap (λ zs. z ∷ zs) (regroup xs x ys)

counts_take : (h : List Entry) (i j : ℕ) → i ≤ j → site_count (take i h) ≤ site_count (take j h)
counts_take h i j le =
    let front : take i (take j h) ≡ take i h = take-take i j h le in
    let whole : take i (take j h) ++ drop i (take j h) ≡ take j h = take-append-drop i (take j h) in
    let grows : site_count (take i (take j h)) ≤ site_count (take i (take j h) ++ drop i (take j h)) = counts_grow (take i (take j h)) (drop i (take j h)) in
    let first : site_count (take i (take j h)) ≡ site_count (take i h) = ap site_count front in
    let last : site_count (take i (take j h) ++ drop i (take j h)) ≡ site_count (take j h) = ap site_count whole in
    omega (arith, grows, first, last)

-- a site that was ordered earlier has a lower number
numbers_less : (h : List Entry) (a b : Site) → position_or_len (is_order_of a) h < length h → position_or_len (is_order_of a) h < position_or_len (is_order_of b) h
    → site_number h a < site_number h b
numbers_less h a b within earlier =
    let i : ℕ = position_or_len (is_order_of a) h in
    let j : ℕ = position_or_len (is_order_of b) h in
    let e : Entry = get_or h i (Opened 0) in
    let passes : is_order_of a e ≡ true = passes_at_first (is_order_of a) h (Opened 0) within in
    let new : is_new_site (take i h) e ≡ true = first_is_new (take i h) a e passes (none_before (is_order_of a) h) in
    let more : site_count (take (i + 1) h) ≡ site_count (take i h) + 1 =
    ap site_count (take_more h i (Opened 0) within) ∙ count_push (take i h) e ∙ ap (λ c. site_count (take i h) + cond c 1 0) new in
    let le : site_count (take (i + 1) h) ≤ site_count (take j h) = counts_take h (i + 1) j (omega arith) in
    omega (arith, more, le, by_place h a, by_place h b)

one_number : (h : List Entry) (a b : Site) → position_or_len (is_order_of a) h < length h → position_or_len (is_order_of b) h < length h → site_number h a ≡ site_number h b → a ≡ b
one_number h a b of_a of_b same = by_order (cases_order (position_or_len (is_order_of a) h) (position_or_len (is_order_of b) h))
  where
    one_place : position_or_len (is_order_of a) h ≡ position_or_len (is_order_of b) h → a ≡ b
    one_place at =
        let first : site_in (get_or h (position_or_len (is_order_of a) h) (Opened 0)) ≡ Some a = order_site a _ (passes_at_first (is_order_of a) h (Opened 0) of_a) in
        let second : site_in (get_or h (position_or_len (is_order_of b) h) (Opened 0)) ≡ Some b = order_site b _ (passes_at_first (is_order_of b) h (Opened 0) of_b) in
        let both : Some a ≡ Some b = sym first ∙ ap (λ n. site_in (get_or h n (Opened 0))) at ∙ second in
        cc

    by_order : (position_or_len (is_order_of a) h ≡ position_or_len (is_order_of b) h)
        ⊎ ((position_or_len (is_order_of a) h < position_or_len (is_order_of b) h) ⊎ (position_or_len (is_order_of b) h < position_or_len (is_order_of a) h)) → a ≡ b
    by_order (inl at) = one_place at
    by_order (inr (inl lt)) = absurd (omega (arith, numbers_less h a b of_a lt, same))
    by_order (inr (inr lt)) = absurd (omega (arith, numbers_less h b a of_b lt, same))

-- ---- locks

record IsOrdered (h : List Entry) (site : Site) : Type 0 where
  place : ℕ
  item : Entry
  here : slice_get h place ≡ Some item
  of : site_in item ≡ Some site

lock_ordered : (h : List Entry) (p : ℕ) (site : Site) → lock_of h p ≡ Some site → IsOrdered h site
lock_ordered h p site e =
    let m = match_found (lock_in p) h site (locked_to h p site e).lock in
    record { place = m.place; item = m.item; here = m.here; of = ap site_in (lock_order m.item p site m.gives).is }

ordered_within : (h : List Entry) (site : Site) → IsOrdered h site → position_or_len (is_order_of site) h < length h
ordered_within h site o = first_within (is_order_of site) h o.place o.item o.here (site_order site o.item o.of)

-- the number of a site that a process of a prefix is locked to
number_of_prefix : (h : List Entry) (i : ℕ) (site : Site) → IsOrdered (take i h) site → site_number h site ≡ site_number (take i h) site
number_of_prefix h i site o =
    ap (λ g. site_number g site) (sym (take-append-drop i h)) ∙ number_kept (take i h) (drop i h) site o.place o.item o.here o.of

ordered_later : (h : List Entry) (i : ℕ) (site : Site) → IsOrdered (take i h) site → IsOrdered h site
ordered_later h i site o = record {
  place = o.place;
  item = o.item;
  here = subst (λ g. slice_get g o.place ≡ Some o.item) (take-append-drop i h) (get_kept (take i h) (drop i h) o.place o.item o.here);
  of = o.of;
}

-- what a row that tells a number stands for
record IsLockedUnder (h : List Entry) (p n : ℕ) : Type 0 where
  site : Site
  lock : lock_of h p ≡ Some site
  number : site_number h site ≡ n

row_lock : (h : List Entry) (p n : ℕ) → table_standing h p ≡ table.Locked n → IsLockedUnder h p n
unfolding table_standing
row_lock h p n e = by_stage (standing h p) refl e
  where
    by_stage : (stage : Stage) → standing h p ≡ stage → numbered h stage ≡ table.Locked n → IsLockedUnder h p n
    by_stage Absent is told = absurd (cc)
    by_stage Warm is told = absurd (cc)
    by_stage (Locked site) is told = let same : site_number h site ≡ n = cc in record { site = site; lock = locked_standing h p site is; number = same }
    by_stage Dead is told = absurd (cc)

lock_row : (h : List Entry) (p : ℕ) (site : Site) → lock_of h p ≡ Some site → table_standing h p ≡ table.Locked (site_number h site)
unfolding table_standing standing is_warm is_locked
lock_row h p site e =
    ap (λ b. numbered h (cond b Dead (cond (is_warm h p) Warm (stage_of_lock (lock_of h p))))) (locked_to h p site e).alive
    ∙ ap (λ o. numbered h (cond (list_any (warms p) h && not (is_dead h p) && not (is_some o)) Warm (stage_of_lock o))) e
    ∙ ap (λ b. numbered h (cond b Warm (Locked site))) (and_false (list_any (warms p) h && not (is_dead h p)))
  where
    and_false : (b : Bool) → (b && false) ≡ false
    and_false true = refl
    and_false false = refl

pub one_site_a_number : OneSiteANumber
one_site_a_number h i p q n first second =
    let a = row_lock (take i h) p n first in
    let b = row_lock h q n second in
    let of_a = lock_ordered (take i h) p a.site a.lock in
    let numbers : site_number h a.site ≡ site_number h b.site = number_of_prefix h i a.site of_a ∙ a.number ∙ sym b.number in
    let same : a.site ≡ b.site =
    one_number h a.site b.site (ordered_within h a.site (ordered_later h i a.site of_a)) (ordered_within h b.site (lock_ordered h q b.site b.lock)) numbers in
    a.lock ∙ ap (λ x. Some x) same ∙ sym b.lock

pub one_number_a_site : OneNumberASite
one_number_a_site h i p q site first second =
    lock_row (take i h) p site first
    ∙ ap (λ n. table.Locked n) (sym (number_of_prefix h i site (lock_ordered (take i h) p site first)))
    ∙ sym (lock_row h q site second)

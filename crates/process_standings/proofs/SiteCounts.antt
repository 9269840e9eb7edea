-- How many sites the orders are of, one entry more, and the number of a site by the place of its first order.
use Rattle.std.proofs.Common.{ap, arith, get_or, refl, sym, take, ◌∙◌}
use Rattle.std.specs.Prelude.{◌≡◌, ◌||◌, ◌<◌, ◌+◌, ◌++◌, ◌∷◌, [], Bool, List, None, Option, Some, cond, false, filter, filter_map, length, nat_lt, not, suc, take_while, true, ℕ}
use Rattle.std.specs.List.{cons_option, list_any, position, position_or_len}
use Rattle.std.specs.Option.{option_map_or}
use Rattle.std.proofs.lemmas.Bool.{ltb-false}
use Rattle.std.proofs.lemmas.List.{take_all, take_more}
use Rattle.std.proofs.lemmas.List.Elements.{filter-append}
use Rattle.std.proofs.lemmas.List.Sums.{take_while-cons}
use Rattle.page_origin.specs.Origins.{equal_sites}
use Rattle.page_origin.specs.declared.site.Site.{Site}
use Rattle.history_entry.specs.declared.entry.Entry.{Entry}
use Rattle.history_rules.proofs.Apart.{from_cond}
use Rattle.history_rules.proofs.Equal.{site_itself, sites_same}
use Rattle.history_rules.proofs.Growth.{filter_map_push}
use Rattle.history_rules.specs.Processes.{distinct_sites, site_in, site_number}
use Rattle.process_standings.specs.Changing.{is_new_site, is_order_of, site_count}

-- ---- equal sites, from either side

one_way : (a b : Site) → equal_sites a b ≡ true → equal_sites b a ≡ true
one_way a b e = let same : a ≡ b = sites_same a b e in ap (λ x. equal_sites x a) (sym same) ∙ site_itself a

both_ways : (x y : Bool) → (x ≡ true → y ≡ true) → (y ≡ true → x ≡ true) → x ≡ y
both_ways true y f g = sym (f refl)
both_ways false true f g = g refl
both_ways false false f g = refl

equal_either : (a b : Site) → equal_sites a b ≡ equal_sites b a
equal_either a b = both_ways (equal_sites a b) (equal_sites b a) (one_way a b) (one_way b a)

-- ---- one order more

append_nothing : {X : Type 0} (xs : List X) → xs ++ [] ≡ xs
append_nothing [] = refl
append_nothing (x ∷ xs) = ap (λ ys. x ∷ ys) (append_nothing xs)

length_push : {X : Type 0} (xs : List X) (b : Bool) (x : X) → length (xs ++ cond b [] (x ∷ [])) ≡ length xs + cond (not b) 1 0
length_push [] true x = refl
length_push [] false x = refl
length_push (y ∷ xs) b x = let more : length (xs ++ cond b [] (x ∷ [])) ≡ length xs + cond (not b) 1 0 = length_push xs b x in omega arith

filter_last : (b c : Bool) (x y : Site) → equal_sites x y ≡ c → filter (λ other. not (equal_sites other y)) (cond b [] (x ∷ [])) ≡ cond (c || b) [] (x ∷ [])
filter_last true true x y is = refl
filter_last true false x y is = refl
filter_last false true x y is = ap (λ d. cond (not d) (x ∷ []) []) is
filter_last false false x y is = ap (λ d. cond (not d) (x ∷ []) []) is

-- one site more stands behind the distinct ones, unless it is one of them
distinct_push : (xs : List Site) (x : Site) → distinct_sites (xs ++ x ∷ []) ≡ distinct_sites xs ++ cond (list_any (equal_sites x) xs) [] (x ∷ [])
distinct_push [] x = refl
distinct_push (y ∷ xs) x =
    let others : Site → Bool = λ other. not (equal_sites other y) in
    ap (λ zs. y ∷ filter others zs) (distinct_push xs x)
    ∙ ap (λ zs. y ∷ zs) (filter-append others (distinct_sites xs) (cond (list_any (equal_sites x) xs) [] (x ∷ [])))
    ∙ ap (λ zs. y ∷ (filter others (distinct_sites xs) ++ zs)) (filter_last (list_any (equal_sites x) xs) (equal_sites x y) x y refl)

sites_push : (xs : List Site) (o : Option Site) → length (distinct_sites (xs ++ cons_option o [])) ≡ length (distinct_sites xs) + cond (option_map_or (λ site. not (list_any (equal_sites site) xs)) o false) 1 0
sites_push xs None = let same : length (distinct_sites (xs ++ [])) ≡ length (distinct_sites xs) = ap (λ ys. length (distinct_sites ys)) (append_nothing xs) in omega arith
sites_push xs (Some x) = ap length (distinct_push xs x) ∙ length_push (distinct_sites xs) (list_any (equal_sites x) xs) x

any_by : (site : Site) (o : Option Site) (b : Bool) (xs : List Site) → b ≡ list_any (equal_sites site) xs → (option_map_or (equal_sites site) o false || b) ≡ list_any (equal_sites site) (cons_option o xs)
any_by site None b xs is = is
any_by site (Some x) b xs is = ap (λ c. equal_sites site x || c) is

-- a site stands among those of the orders where an order is of it
any_order : (site : Site) (h : List Entry) → list_any (is_order_of site) h ≡ list_any (equal_sites site) (filter_map site_in h)
any_order site [] = refl
any_order site (e ∷ h) = any_by site (site_in e) (list_any (is_order_of site) h) (filter_map site_in h) (any_order site h)

new_by : (h : List Entry) (o : Option Site) → option_map_or (λ site. not (list_any (equal_sites site) (filter_map site_in h))) o false ≡ option_map_or (λ site. not (list_any (is_order_of site) h)) o false
new_by h None = refl
new_by h (Some x) = ap not (sym (any_order x h))

pub count_push : (h : List Entry) (e : Entry) → site_count (h ++ e ∷ []) ≡ site_count h + cond (is_new_site h e) 1 0
count_push h e =
    ap (λ xs. length (distinct_sites xs)) (filter_map_push site_in h e)
    ∙ sites_push (filter_map site_in h) (site_in e)
    ∙ ap (λ b. site_count h + cond b 1 0) (new_by h (site_in e))

-- one turn of a loop that counts the sites
pub count_step : (h : List Entry) (i : ℕ) (e : Entry) (count : ℕ) (b : Bool) → i < length h → e ≡ get_or h i e → count ≡ site_count (take i h) → b ≡ is_new_site (take i h) e
    → count + cond b 1 0 ≡ site_count (take (i + 1) h)
count_step h i e count b lt is was new =
    let more : take (i + 1) h ≡ take i h ++ e ∷ [] = take_more h i e lt ∙ ap (λ x. take i h ++ x ∷ []) (sym is) in
    ap (λ n. n + cond b 1 0) was
    ∙ ap (λ c. site_count (take i h) + cond c 1 0) new
    ∙ sym (count_push (take i h) e)
    ∙ ap site_count (sym more)

-- ---- the place of the first order

module _ (site : Site) where
  abbrev others : Site → Bool
  others other = not (equal_sites other site)

  front_equal : (e : Entry) (h : List Entry) (x : Site) (k : ℕ) (b : Bool) → site_in e ≡ Some x → equal_sites x site ≡ b
      → take_while others (filter_map site_in h) ≡ filter_map site_in (take k h)
      → take_while others (x ∷ filter_map site_in h) ≡ filter_map site_in (take (cond (not b) (1 + k) 0) (e ∷ h))
  front_equal e h x k true is equal more =
      take_while-cons others x (filter_map site_in h) ∙ ap (λ c. cond (not c) (x ∷ take_while others (filter_map site_in h)) []) equal
  front_equal e h x k false is equal more =
      let next : suc k ≡ 1 + k = omega arith in
      take_while-cons others x (filter_map site_in h)
      ∙ ap (λ c. cond (not c) (x ∷ take_while others (filter_map site_in h)) []) equal
      ∙ ap (λ xs. x ∷ xs) more
      ∙ ap (λ o. cons_option o (filter_map site_in (take k h))) (sym is)
      ∙ ap (λ n. filter_map site_in (take n (e ∷ h))) next

  front_by : (e : Entry) (h : List Entry) (k : ℕ) (o : Option Site) → site_in e ≡ o
      → take_while others (filter_map site_in h) ≡ filter_map site_in (take k h)
      → take_while others (cons_option o (filter_map site_in h)) ≡ filter_map site_in (take (cond (not (option_map_or (equal_sites site) o false)) (1 + k) 0) (e ∷ h))
  front_by e h k None is more =
      let next : suc k ≡ 1 + k = omega arith in
      more
      ∙ ap (λ o. cons_option o (filter_map site_in (take k h))) (sym is)
      ∙ ap (λ n. filter_map site_in (take n (e ∷ h))) next
  front_by e h k (Some x) is more =
      front_equal e h x k (equal_sites x site) is refl more
      ∙ ap (λ b. filter_map site_in (take (cond (not b) (1 + k) 0) (e ∷ h))) (equal_either x site)

  -- the sites before this one are those of the orders before its first
  front : (h : List Entry) → take_while others (filter_map site_in h) ≡ filter_map site_in (take (position_or_len (is_order_of site) h) h)
  front [] = refl
  front (e ∷ h) =
      front_by e h (position_or_len (is_order_of site) h) (site_in e) refl (front h)
      ∙ ap (λ o. filter_map site_in (take (cond (not (option_map_or (equal_sites site) o false)) (1 + position_or_len (is_order_of site) h) 0) (e ∷ h))) refl

-- the number of a site by the place of its first order
pub by_place : (h : List Entry) (site : Site) → site_number h site ≡ site_count (take (position_or_len (is_order_of site) h) h)
unfolding site_number
by_place h site = ap (λ xs. length (distinct_sites xs)) (front site h)

none_form : (b : Bool) (x : ℕ) → cond b (Some x) None ≡ None → b ≡ false
none_form true x e = absurd (cc)
none_form false x e = refl

-- the number of a site that was ordered
pub number_found : (h : List Entry) (site : Site) (i : ℕ) → position (is_order_of site) h ≡ Some i → site_number h site ≡ site_count (take i h)
number_found h site i e =
    let at : ℕ = position_or_len (is_order_of site) h in
    let a = from_cond (nat_lt at (length h)) (Some at) i e in
    let same : at ≡ i = cc in
    by_place h site ∙ ap (λ n. site_count (take n h)) same

-- the number of a site that was not ordered: so many were
pub number_none : (h : List Entry) (site : Site) → position (is_order_of site) h ≡ None → site_number h site ≡ site_count h
number_none h site e =
    let at : ℕ = position_or_len (is_order_of site) h in
    let past = ltb-false at (length h) (none_form (nat_lt at (length h)) at e) in
    by_place h site ∙ ap site_count (take_all at h (omega arith))

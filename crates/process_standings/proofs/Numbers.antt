-- The number of a site that was ordered stays as the history grows.
use Rattle.std.proofs.Common.{ap, refl, sym, ◌∙◌}
use Rattle.std.specs.Prelude.{◌≡◌, ◌++◌, ◌∷◌, [], Bool, List, None, Option, Some, cond, false, filter_map, length, not, slice_get, suc, take_while, true, zero, ℕ}
use Rattle.std.proofs.lemmas.List.Elements.{filter_map-append}
use Rattle.std.proofs.lemmas.List.Sums.{take_while-cons}
use Rattle.page_origin.specs.Origins.{equal_sites}
use Rattle.page_origin.specs.declared.site.Site.{Site}
use Rattle.history_entry.specs.declared.entry.Entry.{Entry}
use Rattle.history_rules.proofs.Equal.{site_itself}
use Rattle.history_rules.proofs.Growth.{match_found}
use Rattle.history_rules.specs.Orders.{lock_in}
use Rattle.history_rules.specs.Processes.{Absent, Dead, Locked, Stage, Warm, distinct_sites, is_dead, is_warm, lock_of, site_in, site_number, stage_of_lock, standing}
use Rattle.history_steps.proofs.Locks.{filter_map_has, lock_order, locked_to}
use Rattle.policy_table.specs.declared.standing.Standing.TheVariants as table
use Rattle.process_standings.specs.Standings.{numbered}

-- what stands before the first element that does not pass, in a longer list
while_front : {X : Type 0} (q : X → Bool) (xs ys : List X) (j : ℕ) (x : X) → slice_get xs j ≡ Some x → q x ≡ false → take_while q (xs ++ ys) ≡ take_while q xs
while_front q [] ys j x at stops = absurd (cc)
while_front q (z ∷ xs) ys zero x at stops =
    let same : z ≡ x = cc in
    let here : q z ≡ false = ap q same ∙ stops in
    take_while-cons q z (xs ++ ys) ∙ ap (λ b. cond b (z ∷ take_while q (xs ++ ys)) []) here
    ∙ sym (take_while-cons q z xs ∙ ap (λ b. cond b (z ∷ take_while q xs) []) here)
while_front q (z ∷ xs) ys (suc j) x at stops =
    take_while-cons q z (xs ++ ys) ∙ ap (λ zs. cond (q z) (z ∷ zs) []) (while_front q xs ys j x at stops) ∙ sym (take_while-cons q z xs)

-- the number of a site that stands in an order stays
pub number_kept : (h k : List Entry) (site : Site) (i : ℕ) (e : Entry) → slice_get h i ≡ Some e → site_in e ≡ Some site → site_number (h ++ k) site ≡ site_number h site
unfolding site_number
number_kept h k site i e at gives =
    let f = filter_map_has site_in h i e site at gives in
    ap (λ xs. length (distinct_sites (take_while (λ other. not (equal_sites other site)) xs))) (filter_map-append site_in h k)
    ∙ ap (λ xs. length (distinct_sites xs)) (while_front (λ other. not (equal_sites other site)) (filter_map site_in h) (filter_map site_in k) f.0 site f.1 (ap not (site_itself site)))

locked_form : (dead warm : Bool) (o : Option Site) (site : Site) → cond dead Dead (cond warm Warm (stage_of_lock o)) ≡ Locked site → o ≡ Some site
locked_form true warm o site e = absurd (cc)
locked_form false true o site e = absurd (cc)
locked_form false false None site e = absurd (cc)
locked_form false false (Some x) site e = cc

-- a process that stands locked to a site has its lock there
pub locked_standing : (h : List Entry) (p : ℕ) (site : Site) → standing h p ≡ Locked site → lock_of h p ≡ Some site
unfolding standing
locked_standing h p site e = locked_form (is_dead h p) (is_warm h p) (lock_of h p) site e

-- the number by which a standing is told stays
pub numbered_kept : (h k : List Entry) (p : ℕ) → numbered (h ++ k) (standing h p) ≡ numbered h (standing h p)
numbered_kept h k p = by_stage (standing h p) refl
  where
    by_stage : (stage : Stage) → standing h p ≡ stage → numbered (h ++ k) stage ≡ numbered h stage
    by_stage Absent is = refl
    by_stage Warm is = refl
    by_stage (Locked site) is =
        let m = match_found (lock_in p) h site (locked_to h p site (locked_standing h p site is)).lock in
        let o = lock_order m.item p site m.gives in
        ap (λ n. table.Locked n) (number_kept h k site m.place m.item m.here (ap site_in o.is))
    by_stage Dead is = refl

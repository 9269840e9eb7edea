-- An answer other than More stays, whatever follows.
use Rattle.std.proofs.Common.{◌≡◌, ◌≢◌, ℕ, ◌-◌, ◌<◌, ◌≤◌, ◌⊎◌, inl, inr, Bool, true, false, ◌&&◌, cond, Option, Some, None, List, [], ◌∷◌, ◌++◌, length, take, refl, sym, ap, ◌∙◌, append_assoc, length-append, arith}
use Rattle.std.specs.List.{find}
use Rattle.std.specs.Option.{is_some}
use Rattle.std.proofs.lemmas.List.{take-append-le}
use Rattle.std.proofs.lemmas.Bool.{false≢true, cases_lt, and_parts, and_from, or_cases, or_right, leb-true, not-true, not_from_false, false_from_ne_true}
use Rattle.corb_sniff.specs.Confirmation.{window, meets, is_tested, all_sniffed, found_in, confirms}
use Rattle.corb_sniff.specs.Hope.{may_be_found}
use Rattle.corb_sniff.specs.Answers.{is_settled, answer_by, answer_of}
use Rattle.corb_sniff.specs.declared.kind.SniffKind.{SniffKind}
use Rattle.corb_sniff.specs.declared.kind.Sniffed.{Sniffed}
use Rattle.corb_sniff.specs.declared.kind.Sniffed.TheVariants.{Html, Xml, Json, Prefix}
use Rattle.corb_sniff.specs.declared.kind.Answer.TheVariants.{More, Clear}
use Rattle.corb_sniff.proofs.ReadLemmas.{take-append, window-all, settled_long}
use Rattle.corb_sniff.proofs.Longer.{meets-longer}
use Rattle.corb_sniff.proofs.OneMet.{one_met}
use Rattle.corb_sniff.proofs.MayBeFound.{found_continued, found_in-hopeless}

found_first : (t : Bool) (x s : Sniffed) (o : Option Sniffed) → cond t (Some x) o ≡ Some s → ((t ≡ true) × (x ≡ s)) ⊎ (o ≡ Some s)
found_first true x s o h = inl (refl, cc)
found_first false x s o h = inr h

find-holds : (p : Sniffed → Bool) (xs : List Sniffed) (s : Sniffed) → find p xs ≡ Some s → p s ≡ true
find-holds p [] s h = cc
find-holds p (x ∷ xs) s h =
    elim (found_first (p x) x s (find p xs) h) [
      | inl here ↦ ap p (sym here.1) ∙ here.0
      | inr there ↦ find-holds p xs s there
    ]

-- where only one passes, the first that passes is that one
only_found : (t : Bool) (x s : Sniffed) (o : Option Sniffed) → (t ≡ true → x ≡ s) → o ≡ Some s → cond t (Some x) o ≡ Some s
only_found true x s o only h = ap Some (only refl)
only_found false x s o only h = h

find-only : (p : Sniffed → Bool) (s : Sniffed) → p s ≡ true → ((x : Sniffed) → p x ≡ true → x ≡ s) → find p (Html ∷ Xml ∷ Json ∷ Prefix ∷ []) ≡ Some s
find-only p Html h only = ap (λ t. cond t (Some Html) (find p (Xml ∷ Json ∷ Prefix ∷ []))) h
find-only p Xml h only =
    only_found (p Html) Html Xml _ (only Html) (ap (λ t. cond t (Some Xml) (find p (Json ∷ Prefix ∷ []))) h)
find-only p Json h only =
    only_found (p Html) Html Json _ (only Html)
    (only_found (p Xml) Xml Json _ (only Xml) (ap (λ t. cond t (Some Json) (find p (Prefix ∷ []))) h))
find-only p Prefix h only =
    only_found (p Html) Html Prefix _ (only Html)
    (only_found (p Xml) Xml Prefix _ (only Xml)
    (only_found (p Json) Json Prefix _ (only Json) (ap (λ t. cond t (Some Prefix) None) h)))

-- what is confirmed is tested for and met, and what is tested for and met is confirmed
pub confirms-met : (kind : SniffKind) (list : List ℕ) (s : Sniffed) → confirms kind list ≡ Some s → (is_tested kind s && meets s (window list)) ≡ true
unfolding found_in
confirms-met kind list s h = find-holds (λ x. is_tested kind x && meets x (window list)) all_sniffed s h

pub met-confirms : (kind : SniffKind) (list : List ℕ) (s : Sniffed) → (is_tested kind s && meets s (window list)) ≡ true → confirms kind list ≡ Some s
unfolding found_in
met-confirms kind list s h =
    let met = (and_parts (is_tested kind s) (meets s (window list)) h).1 in
    find-only (λ x. is_tested kind x && meets x (window list)) s h
    (λ x other. one_met x s (window list) (and_parts (is_tested kind x) (meets x (window list)) other).1 met)

confirms-longer : (kind : SniffKind) (list more : List ℕ) (s : Sniffed) → confirms kind list ≡ Some s → confirms kind (list ++ more) ≡ Some s
confirms-longer kind list more s h =
    let parts = and_parts (is_tested kind s) (meets s (window list)) (confirms-met kind list s h) in
    met-confirms kind (list ++ more) s
    (and_from (is_tested kind s) (meets s (window (list ++ more))) parts.0
    (ap (meets s) (take-append 1024 list more) ∙ meets-longer s (window list) (take (1024 - length list) more) parts.1))

-- where nothing may be found in a list, nothing may be in a longer one
may_be_found-longer : (kind : SniffKind) (list more : List ℕ) → may_be_found kind list ≡ false → may_be_found kind (list ++ more) ≡ false
may_be_found-longer kind list more none =
    false_from_ne_true (may_be_found kind (list ++ more))
    (λ some.
    let way = found_continued kind (list ++ more) some in
    let nothing = ap (found_in kind) (append_assoc list more way.0) ∙ found_in-hopeless kind list (more ++ way.0) none in
    false≢true (sym (ap is_some nothing) ∙ way.1))

clear_answer : (kind : SniffKind) (list : List ℕ) (ended : Bool) → confirms kind list ≡ None → is_settled kind list ended ≡ true → answer_of kind list ended ≡ Clear
clear_answer kind list ended none settled =
    ap (λ o. answer_by o (is_settled kind list ended)) none ∙ ap (λ t. answer_by None t) settled

full_stays : (kind : SniffKind) (list more : List ℕ) (ended : Bool) → confirms kind list ≡ None → 1024 ≤ length list → answer_of kind (list ++ more) ended ≡ Clear
full_stays kind list more ended none full =
    clear_answer kind (list ++ more) ended (ap (found_in kind) (take-append-le 1024 list more full) ∙ none)
    (settled_long kind (list ++ more) ended (omega (arith, length-append list more)))

hopeless_stays : (kind : SniffKind) (list more : List ℕ) (ended : Bool) → length list < 1024 → may_be_found kind list ≡ false → answer_of kind (list ++ more) ended ≡ Clear
unfolding is_settled
hopeless_stays kind list more ended short none =
    clear_answer kind (list ++ more) ended
    (ap (found_in kind) (take-append 1024 list more ∙ ap (λ l. l ++ take (1024 - length list) more) (window-all list short)) ∙ found_in-hopeless kind list (take (1024 - length list) more) none)
    (or_right _ _ (not_from_false _ (may_be_found-longer kind list more none)))

clear_stays : (kind : SniffKind) (list more : List ℕ) (ended : Bool) → confirms kind list ≡ None → is_settled kind list false ≡ true → answer_of kind (list ++ more) ended ≡ Clear
unfolding is_settled
clear_stays kind list more ended none settled =
    elim (cases_lt (length list) 1024) [
      | inl short ↦ elim (or_cases _ _ settled) [
        | inl full ↦ full_stays kind list more ended none (leb-true 1024 (length list) full)
        | inr lost ↦ hopeless_stays kind list more ended short (not-true _ lost)
      ]
      | inr full ↦ full_stays kind list more ended none full
    ]

-- by what is confirmed and whether that is settled
stays_by : (kind : SniffKind) (list more : List ℕ) (ended : Bool) (found : Option Sniffed) (settled : Bool) → confirms kind list ≡ found → is_settled kind list false ≡ settled → answer_by found settled ≢ More → answer_of kind (list ++ more) ended ≡ answer_by found settled
stays_by kind list more ended (Some sniffed) settled e f ne =
    ap (λ o. answer_by o (is_settled kind (list ++ more) ended)) (confirms-longer kind list more sniffed e)
stays_by kind list more ended None true e f ne = clear_stays kind list more ended e f
stays_by kind list more ended None false e f ne = absurd (ne refl)

pub answer_stays : (kind : SniffKind) (list more : List ℕ) (ended : Bool) → answer_of kind list false ≢ More → answer_of kind (list ++ more) ended ≡ answer_of kind list false
answer_stays kind list more ended ne = stays_by kind list more ended (confirms kind list) (is_settled kind list false) refl refl ne

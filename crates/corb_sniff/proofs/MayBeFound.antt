-- Some continuation is found to be something exactly where the test says so.
use Rattle.std.proofs.Common.{◌≡◌, ℕ, Bool, true, false, ◌&&◌, ◌||◌, cond, Option, Some, None, List, [], ◌∷◌, ◌++◌, refl, sym, ap, ◌∙◌, inl, inr}
use Rattle.std.specs.Prelude.{IsSome, is_some}
use Rattle.std.specs.List.{find, list_any}
use Rattle.std.proofs.lemmas.Bool.{false≢true, and_parts, and_from, or_cases, or_left, or_right, false_from_ne_true}
use Rattle.corb_sniff.specs.ScriptPrefixes.{script_prefixes, has_prefix}
use Rattle.corb_sniff.specs.Confirmation.{meets, is_tested, all_sniffed, found_in}
use Rattle.corb_sniff.specs.Continuations.{IsHopeless}
use Rattle.corb_sniff.specs.Hope.{may_have_prefix, may_meet, may_be_found}
use Rattle.corb_sniff.specs.declared.kind.SniffKind.{SniffKind}
use Rattle.corb_sniff.specs.declared.kind.Sniffed.{Sniffed}
use Rattle.corb_sniff.specs.declared.kind.Sniffed.TheVariants.{Html, Xml, Json, Prefix}
use Rattle.corb_sniff.proofs.Words.{AreLower, some_agrees, some_begins}
use Rattle.corb_sniff.proofs.MayBeHtml.{may_be_html_before, html_continued}
use Rattle.corb_sniff.proofs.MayBeXml.{may_be_xml_before, xml_continued}
use Rattle.corb_sniff.proofs.MayBeJson.{may_be_json_before, json_continued}

prefix_before : (list more : List ℕ) → has_prefix (list ++ more) ≡ true → may_have_prefix list ≡ true
unfolding has_prefix may_have_prefix
prefix_before list more h = some_agrees script_prefixes list more h

prefix_continued : (list : List ℕ) → may_have_prefix list ≡ true → (more : List ℕ) × (has_prefix (list ++ more) ≡ true)
unfolding has_prefix may_have_prefix AreLower
prefix_continued list h =
    let way = some_begins script_prefixes list (refl, (refl, (refl, tt))) h in
    (way.more, way.holds)

may_meet_before : (sniffed : Sniffed) (list more : List ℕ) → meets sniffed (list ++ more) ≡ true → may_meet sniffed list ≡ true
may_meet_before Html list more h = may_be_html_before list more h
may_meet_before Xml list more h = may_be_xml_before list more h
may_meet_before Json list more h = may_be_json_before list more h
may_meet_before Prefix list more h = prefix_before list more h

meets_continued : (sniffed : Sniffed) (list : List ℕ) → may_meet sniffed list ≡ true → (more : List ℕ) × (meets sniffed (list ++ more) ≡ true)
meets_continued Html list h = html_continued list h
meets_continued Xml list h = xml_continued list h
meets_continued Json list h = json_continued list h
meets_continued Prefix list h = prefix_continued list h

-- a test that one passes is passed by some, and what some pass is passed by one
any_passes : (p : Sniffed → Bool) (sniffed : Sniffed) → p sniffed ≡ true → list_any p all_sniffed ≡ true
any_passes p Html h = or_left (p Html) _ h
any_passes p Xml h = or_right (p Html) _ (or_left (p Xml) (p Json || (p Prefix || false)) h)
any_passes p Json h = or_right (p Html) _ (or_right (p Xml) _ (or_left (p Json) (p Prefix || false) h))
any_passes p Prefix h = or_right (p Html) _ (or_right (p Xml) _ (or_right (p Json) _ (or_left (p Prefix) false h)))

one_passes : (p : Sniffed → Bool) (xs : List Sniffed) → list_any p xs ≡ true → (sniffed : Sniffed) × (p sniffed ≡ true)
one_passes p [] h = absurd (false≢true h)
one_passes p (x ∷ xs) h =
    elim (or_cases _ _ h) [
      | inl here ↦ (x, here)
      | inr there ↦ one_passes p xs there
    ]

-- where nothing may be found, nothing tested for is met whatever follows
pub hopeless_from : (kind : SniffKind) (list : List ℕ) → may_be_found kind list ≡ false → (sniffed : Sniffed) → is_tested kind sniffed ≡ true → IsHopeless (meets sniffed) list
unfolding may_be_found
hopeless_from kind list none sniffed tested more =
    false_from_ne_true (meets sniffed (list ++ more))
    (λ met. false≢true (sym none ∙ any_passes (λ s. is_tested kind s && may_meet s list) sniffed
    (and_from (is_tested kind sniffed) (may_meet sniffed list) tested (may_meet_before sniffed list more met))))

-- where nothing tested for is met whatever follows, nothing may be found
pub may_be_found-hopeless : (kind : SniffKind) (list : List ℕ) → ((sniffed : Sniffed) → is_tested kind sniffed ≡ true → IsHopeless (meets sniffed) list) → may_be_found kind list ≡ false
unfolding may_be_found
may_be_found-hopeless kind list hopeless =
    false_from_ne_true (may_be_found kind list)
    (λ some.
    let one = one_passes (λ s. is_tested kind s && may_meet s list) all_sniffed some in
    let parts = and_parts (is_tested kind one.0) (may_meet one.0 list) one.1 in
    let way = meets_continued one.0 list parts.1 in
    false≢true (sym (hopeless one.0 parts.0 way.0) ∙ way.1))

pub find-none : (p : Sniffed → Bool) (xs : List Sniffed) → ((x : Sniffed) → p x ≡ false) → find p xs ≡ None
find-none p [] h = refl
find-none p (x ∷ xs) h = ap (λ t. cond t (Some x) (find p xs)) (h x) ∙ find-none p xs h

some_if : (t : Bool) (x : Sniffed) (o : Option Sniffed) → IsSome o → IsSome (cond t (Some x) o)
some_if true x o h = refl
some_if false x o h = h

-- where one passes, some one is found
find-some : (p : Sniffed → Bool) (sniffed : Sniffed) → p sniffed ≡ true → IsSome (find p all_sniffed)
find-some p Html h = ap (λ t. is_some (cond t (Some Html) (find p (Xml ∷ Json ∷ Prefix ∷ [])))) h
find-some p Xml h = some_if (p Html) Html _ (ap (λ t. is_some (cond t (Some Xml) (find p (Json ∷ Prefix ∷ [])))) h)
find-some p Json h =
    some_if (p Html) Html _ (some_if (p Xml) Xml _ (ap (λ t. is_some (cond t (Some Json) (find p (Prefix ∷ [])))) h))
find-some p Prefix h =
    some_if (p Html) Html _ (some_if (p Xml) Xml _ (some_if (p Json) Json _ (ap (λ t. is_some (cond t (Some Prefix) None)) h)))

-- where something may be found, some continuation is found to be something
pub found_continued : (kind : SniffKind) (list : List ℕ) → may_be_found kind list ≡ true → (more : List ℕ) × IsSome (found_in kind (list ++ more))
unfolding may_be_found found_in
found_continued kind list h =
    let one = one_passes (λ s. is_tested kind s && may_meet s list) all_sniffed h in
    let parts = and_parts (is_tested kind one.0) (may_meet one.0 list) one.1 in
    let way = meets_continued one.0 list parts.1 in (
      way.0,
      find-some (λ s. is_tested kind s && meets s (list ++ way.0)) one.0
          (and_from (is_tested kind one.0) (meets one.0 (list ++ way.0)) parts.0 way.1),
    )

fails_if : (t m : Bool) → (t ≡ true → m ≡ false) → (t && m) ≡ false
fails_if true m h = h refl
fails_if false m h = refl

-- where nothing may be found, no continuation is found to be anything
pub found_in-hopeless : (kind : SniffKind) (list more : List ℕ) → may_be_found kind list ≡ false → found_in kind (list ++ more) ≡ None
unfolding found_in
found_in-hopeless kind list more none =
    find-none (λ s. is_tested kind s && meets s (list ++ more)) all_sniffed
    (λ s. fails_if (is_tested kind s) (meets s (list ++ more)) (λ tested. hopeless_from kind list none s tested more))

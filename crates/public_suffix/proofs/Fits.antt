-- How the labels of a rule fit those of a host.
use Rattle.std.proofs.Common.{◌≡◌, ℕ, ◌+◌, ◌-◌, ◌<◌, ◌≤◌, suc, Bool, true, false, not, ◌&&◌, ◌||◌, ◌==◌, nat_le, List, [], ◌∷◌, ◌++◌, length, drop, refl, ap, sym, ◌∙◌, subst, arith, codes, ◌⊎◌, inl, inr, ⊎_elim}
use Rattle.std.specs.Prelude.{bytes_eq}
use Rattle.std.specs.List.{list_all, zip, join_with_byte, enumerate_from}
use Rattle.std.proofs.lemmas.Bool.{cases_Bool, cases_lt}
use Rattle.std.proofs.lemmas.Bool.Decides.{nat_tests}
use Rattle.std.proofs.lemmas.List.Splits.{join_with_byte-slice_split}
use Rattle.public_suffix.specs.Labels.{labels, label_count}
use Rattle.public_suffix.specs.RegistrableDomain.{SuffixRule, label_fits, fits_last}
use Rattle.public_suffix.specs.RuleLines.{is_rule, is_name_label, is_rule_label, has_rule_labels}
use Rattle.public_suffix.proofs.IndexLemmas.{and_left, and_right, same_test, equal_bytes, bytes_equal}

-- the labels of a rule fit all of the host's
unfoldable pub fits_all : List (List ℕ) → List (List ℕ) → Bool
fits_all host rule = length rule == length host && list_all label_fits (zip host rule)

short_by : (label : List ℕ) (host rule : List (List ℕ)) → length rule ≤ length host → fits_last (label ∷ host) rule ≡ (fits_all (label ∷ host) rule || fits_last host rule)
unfolding fits_last fits_all
short_by label host rule short =
    let skip : suc (length host) - length rule ≡ suc (length host - length rule) = omega arith in
    rw skip (grind (arith, nat_tests))

same_by : (label : List ℕ) (host rule : List (List ℕ)) → length rule ≡ suc (length host) → fits_last (label ∷ host) rule ≡ (fits_all (label ∷ host) rule || fits_last host rule)
unfolding fits_last fits_all
same_by label host rule same =
    let skip : suc (length host) - length rule ≡ 0 = omega arith in
    rw skip (grind (arith, nat_tests))

long_by : (label : List ℕ) (host rule : List (List ℕ)) → suc (length host) < length rule → fits_last (label ∷ host) rule ≡ (fits_all (label ∷ host) rule || fits_last host rule)
unfolding fits_last fits_all
long_by label host rule long = grind (arith, nat_tests)

-- a rule fits a host's last labels where it fits all of them, or the last of those after the first
pub fits_last_more : (label : List ℕ) (host rule : List (List ℕ)) → fits_last (label ∷ host) rule ≡ (fits_all (label ∷ host) rule || fits_last host rule)
fits_last_more label host rule =
    ⊎_elim (λ over. ⊎_elim (λ long. long_by label host rule long) (λ same. same_by label host rule (omega arith)) (cases_lt (suc (length host)) (length rule)))
    (λ short. short_by label host rule short) (cases_lt (length host) (length rule))

-- a rule that fits is not longer than the host
pub fits_last_length : (host rule : List (List ℕ)) → fits_last host rule ≡ true → length rule ≤ length host
unfolding fits_last
fits_last_length host rule fits =
    let short = and_left (nat_le (length rule) (length host)) (list_all label_fits (zip (drop (length host - length rule) host) rule)) fits in
    grind (arith, nat_tests)

-- the texts of equal labels are equal
pub labels_apart : (a b : List ℕ) → labels a ≡ labels b → a ≡ b
labels_apart a b same = sym (join_with_byte-slice_split 46 a) ∙ ap (join_with_byte 46) same ∙ join_with_byte-slice_split 46 b

fits_parts : (label : List ℕ) (host : List (List ℕ)) (first : List ℕ) (rule : List (List ℕ)) → fits_all (label ∷ host) (first ∷ rule) ≡ true → (label_fits (label, first) ≡ true) × (fits_all host rule ≡ true)
unfolding fits_all
fits_parts label host first rule fits =
    let lengths : (suc (length rule) == suc (length host)) ≡ true = and_left _ (label_fits (label, first) && list_all label_fits (zip host rule)) fits in
    let each = and_right (suc (length rule) == suc (length host)) (label_fits (label, first) && list_all label_fits (zip host rule)) fits in
    let label_fit = and_left (label_fits (label, first)) (list_all label_fits (zip host rule)) each in
    let others = and_right (label_fits (label, first)) (list_all label_fits (zip host rule)) each in
    (label_fit, grind (arith, nat_tests))

-- a label fits a name only where it is that name
label_is : (label first : List ℕ) → is_name_label first ≡ true → label_fits (label, first) ≡ true → label ≡ first
label_is label first name fits =
    ⊎_elim
    (λ star. absurd (let is = equal_bytes first (codes "*") star in let no : is_name_label (codes "*") ≡ true = ap is_name_label (sym is) ∙ name in cc))
    (λ other. equal_bytes label first (ap (λ b. b || bytes_eq label first) (sym other) ∙ fits))
    (cases_Bool (bytes_eq first (codes "*")))

-- names fit only themselves
pub names_equal : (host rule : List (List ℕ)) → list_all is_name_label rule ≡ true → fits_all host rule ≡ true → host ≡ rule
unfolding fits_all
names_equal [] [] names fits = refl
names_equal [] (first ∷ rule) names fits = grind (arith, nat_tests)
names_equal (label ∷ host) [] names fits = grind (arith, nat_tests)
names_equal (label ∷ host) (first ∷ rule) names fits =
    let parts = fits_parts label host first rule fits in
    let name = and_left (is_name_label first) (list_all is_name_label rule) names in
    let others = and_right (is_name_label first) (list_all is_name_label rule) names in
    ap (λ l. l ∷ host) (label_is label first name parts.0) ∙ ap (λ ls. first ∷ ls) (names_equal host rule others parts.1)

pub fits_itself : (host : List (List ℕ)) → fits_all host host ≡ true
unfolding fits_all
fits_itself [] = refl
fits_itself (label ∷ host) = let more = fits_itself host in let same = bytes_equal label label refl in grind (arith, nat_tests)

-- past the leftmost place, and in an exception at each place, the labels of a rule are names
places_are_names : (exception : Bool) (place : ℕ) (rule : List (List ℕ)) → (exception ≡ true) ⊎ (0 < place) → list_all (is_rule_label exception) (enumerate_from place rule) ≡ true → list_all is_name_label rule ≡ true
places_are_names exception place [] where_ may = refl
places_are_names exception place (first ∷ rule) where_ may =
    let here = and_left (is_rule_label exception (place, first)) (list_all (is_rule_label exception) (enumerate_from (place + 1) rule)) may in
    let later = and_right (is_rule_label exception (place, first)) (list_all (is_rule_label exception) (enumerate_from (place + 1) rule)) may in
    let more = places_are_names exception (place + 1) rule (inr (omega arith)) later in
    let no_star : (place == 0 && not exception) ≡ false = ⊎_elim (λ yes. grind (arith, nat_tests)) (λ past. grind (arith, nat_tests)) where_ in
    let name : is_name_label first ≡ true = grind (arith, nat_tests) in
    grind (arith, nat_tests)

-- an exception has names alone
pub exception_names : (rule : SuffixRule) → is_rule rule ≡ true → rule.exception ≡ true → list_all is_name_label (labels rule.text) ≡ true
unfolding is_rule
exception_names rule formed exception =
    places_are_names rule.exception 0 (labels rule.text) (inl exception) (and_left (has_rule_labels rule.exception rule.text) (not rule.exception || nat_le 2 (label_count rule.text)) formed)

-- an exception fits a whole host where it is that host
pub exception_fits : (host : List ℕ) (rule : SuffixRule) → is_rule rule ≡ true → rule.exception ≡ true → fits_all (labels host) (labels rule.text) ≡ bytes_eq host rule.text
exception_fits host rule formed exception =
    same_test (fits_all (labels host) (labels rule.text)) (bytes_eq host rule.text)
    (λ fits. bytes_equal host rule.text (labels_apart host rule.text (names_equal (labels host) (labels rule.text) (exception_names rule formed exception) fits)))
    (λ same. subst (λ (text : List ℕ). fits_all (labels host) (labels text) ≡ true) (equal_bytes host rule.text same) (fits_itself (labels host)))

-- the labels of `*.` and a text
labels_star : (text : List ℕ) → labels (codes "*." ++ text) ≡ codes "*" ∷ labels text
labels_star text = refl

label_star : (label : List ℕ) (host : List (List ℕ)) → fits_all (label ∷ host) (codes "*" ∷ host) ≡ true
unfolding fits_all
label_star label host =
    let more = fits_itself host in
    let same : bytes_eq (codes "*") (codes "*") ≡ true = refl in
    grind (arith, nat_tests)

-- of a rule that is no exception, the labels after the first are names
tail_names : (exception : Bool) (first : List ℕ) (rule : List (List ℕ)) → list_all (is_rule_label exception) (enumerate_from 0 (first ∷ rule)) ≡ true → list_all is_name_label rule ≡ true
tail_names exception first rule may = places_are_names exception 1 rule (inr (omega arith)) (and_right (is_rule_label exception (0, first)) (list_all (is_rule_label exception) (enumerate_from 1 rule)) may)

fits_none : (label : List ℕ) (host : List (List ℕ)) → fits_all (label ∷ host) [] ≡ false
unfolding fits_all
fits_none label host = grind (arith, nat_tests)

or_left : (a b : Bool) → a ≡ true → (a || b) ≡ true
or_left a b is = ap (λ t. t || b) is

or_right : (a b : Bool) → b ≡ true → (a || b) ≡ true
or_right true b is = refl
or_right false b is = is

other_by : (host rest label : List ℕ) (text : List ℕ) (parts : List (List ℕ)) → labels text ≡ parts → labels host ≡ label ∷ labels rest → list_all (is_rule_label false) (enumerate_from 0 parts) ≡ true → fits_all (label ∷ labels rest) parts ≡ true → (bytes_eq host text || bytes_eq (codes "*." ++ rest) text) ≡ true
other_by host rest label text [] is of_host may fits = absurd (let none = fits_none label (labels rest) in let no : true ≡ false = cc in cc)
other_by host rest label text (first ∷ rule) is of_host may fits =
    let parts = fits_parts label (labels rest) first rule fits in
    let same : labels rest ≡ rule = names_equal (labels rest) rule (tail_names false first rule may) parts.1 in
    ⊎_elim
    (λ star.
    let head : first ≡ codes "*" = equal_bytes first (codes "*") star in
    let whole : labels (codes "*." ++ rest) ≡ labels text = ap (λ ls. codes "*" ∷ ls) same ∙ ap (λ l. l ∷ rule) (sym head) ∙ sym is in
    or_right (bytes_eq host text) (bytes_eq (codes "*." ++ rest) text) (bytes_equal (codes "*." ++ rest) text (labels_apart (codes "*." ++ rest) text whole)))
    (λ other.
    let head : label ≡ first = equal_bytes label first (ap (λ b. b || bytes_eq label first) (sym other) ∙ parts.0) in
    let whole : labels host ≡ labels text = of_host ∙ ap (λ ls. label ∷ ls) same ∙ ap (λ l. l ∷ rule) head ∙ sym is in
    or_left (bytes_eq host text) (bytes_eq (codes "*." ++ rest) text) (bytes_equal host text (labels_apart host text whole)))
    (cases_Bool (bytes_eq first (codes "*")))

rule_labels : (rule : SuffixRule) → is_rule rule ≡ true → rule.exception ≡ false → list_all (is_rule_label false) (enumerate_from 0 (labels rule.text)) ≡ true
unfolding is_rule
rule_labels rule formed plain =
    subst (λ (e : Bool). list_all (is_rule_label e) (enumerate_from 0 (labels rule.text)) ≡ true) plain (and_left (has_rule_labels rule.exception rule.text) (not rule.exception || nat_le 2 (label_count rule.text)) formed)

or_cases : {A : Type 0} (a b : Bool) → (a || b) ≡ true → (a ≡ true → A) → (b ≡ true → A) → A
or_cases true b either left right = left refl
or_cases false b either left right = right either

-- another rule fits a whole host where it is that host, or `*.` and the host without its first label
pub other_fits : (host rest label : List ℕ) (rule : SuffixRule) → labels host ≡ label ∷ labels rest → is_rule rule ≡ true → rule.exception ≡ false → fits_all (labels host) (labels rule.text) ≡ (bytes_eq host rule.text || bytes_eq (codes "*." ++ rest) rule.text)
other_fits host rest label rule of_host formed plain =
    same_test (fits_all (labels host) (labels rule.text)) (bytes_eq host rule.text || bytes_eq (codes "*." ++ rest) rule.text)
    (λ fits. other_by host rest label rule.text (labels rule.text) refl of_host (rule_labels rule formed plain) (ap (λ ls. fits_all ls (labels rule.text)) (sym of_host) ∙ fits))
    (λ either. or_cases (bytes_eq host rule.text) (bytes_eq (codes "*." ++ rest) rule.text) either
    (λ same. subst (λ (text : List ℕ). fits_all (labels host) (labels text) ≡ true) (equal_bytes host rule.text same) (fits_itself (labels host)))
    (λ star.
    let same : labels rule.text ≡ codes "*" ∷ labels rest = ap labels (sym (equal_bytes (codes "*." ++ rest) rule.text star)) in
    ap (λ ls. fits_all ls (labels rule.text)) of_host ∙ ap (λ ls. fits_all (label ∷ labels rest) ls) same ∙ label_star label (labels rest)))

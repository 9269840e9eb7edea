-- Texts that begin with the lines of entries.
use Rattle.std.proofs.Common.{◌≡◌, ◌⊎◌, ℕ, ◌+◌, ◌-◌, ◌<◌, ◌^◌, Bool, true, false, ◌==◌, List, [], ◌∷◌, ◌++◌, length, drop, Ok, Err, refl, sym, ap, ◌∙◌, subst, arith, inl, inr, suc, append_assoc, append-nil, length-append}
use Rattle.std.specs.Prelude.{IfOk, Result, codes, nat_eq, if◌then◌else◌}
use Rattle.std.specs.List.{starts_with}
use Rattle.std.proofs.lemmas.Bool.{eqb-true}
use Rattle.std.proofs.lemmas.Bool.Decides.{Decides-eqb}
use Rattle.std.proofs.lemmas.List.{append_cancel_left}
use Rattle.std.proofs.lemmas.Slice.Eq.{starts_is}
use Rattle.history_entry.specs.declared.entry.Entry.{Entry}
use Rattle.history_entry.specs.declared.policy.Policy.{Policy}
use Rattle.history_entry.specs.declared.policy.Policy.TheVariants.{One, Two}
use Rattle.entry_text.specs.Lines.{line_of}
use Rattle.entry_reading.specs.Entries.{IsEntry}
use Rattle.entry_reading.specs.Fields.{before}
use Rattle.entry_reading.specs.Reading.{entry_by, entry_of}
use Rattle.entry_reading.specs.Spellings.{BeginsWithNoLine, SpellsNone}
use Rattle.entry_reading.proofs.Answered.{unread}
use Rattle.entry_reading.proofs.FirstLine.{nothing_begins}
use Rattle.entry_reading.proofs.LinesBack.{before_feed, one_line}
use Rattle.history_entries.specs.Text.{head_of, lines_of, text_of, version_line}
use Rattle.history_text.specs.declared.stop.TextStop.{TextStop}
use Rattle.history_text.specs.declared.stop.TextStop.TheVariants.{BadLine, NoMemory}
use Rattle.history_text.specs.Texts.{AreEntriesOf, BeginsWithNoLineOf, HasRuleOf, IsEntryOf, IsFirstBadLine, IsTextOf, line_number, policy_of}

-- ---- entries of a policy

-- a text that begins with no line at all begins with none of the policy
pub no_line_of : (policy : Policy) (bytes : List ℕ) → BeginsWithNoLine bytes → BeginsWithNoLineOf policy bytes
no_line_of policy bytes none e rest valid is = none e rest valid.0 is

-- nor does one that begins with the line of an entry with a rule of another policy
pub other_rule : (policy : Policy) (bytes more : List ℕ) (e : Entry) → IsEntry e → line_of e ++ more ≡ bytes → ¬ (HasRuleOf policy e) → BeginsWithNoLineOf policy bytes
other_rule policy bytes more e valid whole other f rest has is =
    let same : e ≡ f = one_line e f more rest valid has.0 (whole ∙ sym is) in
    let P : Entry → Type 0 = λ x. HasRuleOf policy x in
    other (subst P (sym same) has.1)

-- ---- texts

-- the entries of which two equal bytes begin with the lines are equal, up to what begins with no line
pub same_entries : (policy : Policy) (h g : List Entry) (r s : List ℕ) → AreEntriesOf policy h → AreEntriesOf policy g → BeginsWithNoLineOf policy r → BeginsWithNoLineOf policy s → lines_of h ++ r ≡ lines_of g ++ s → h ≡ g
unfolding lines_of
same_entries policy [] [] r s a b ends stops same = refl
same_entries policy [] (y ∷ ys) r s a b ends stops same =
    absurd (ends y (lines_of ys ++ s) b.0 (sym (append_assoc (line_of y) (lines_of ys) s) ∙ sym same))
same_entries policy (x ∷ xs) [] r s a b ends stops same =
    absurd (stops x (lines_of xs ++ r) a.0 (sym (append_assoc (line_of x) (lines_of xs) r) ∙ same))
same_entries policy (x ∷ xs) (y ∷ ys) r s a b ends stops same =
    let whole : line_of x ++ (lines_of xs ++ r) ≡ line_of y ++ (lines_of ys ++ s) = sym (append_assoc (line_of x) (lines_of xs) r) ∙ same ∙ append_assoc (line_of y) (lines_of ys) s in
    let first : x ≡ y = one_line x y (lines_of xs ++ r) (lines_of ys ++ s) a.0.0 b.0.0 whole in
    let P : Entry → Type 0 = λ z. line_of x ++ (lines_of xs ++ r) ≡ line_of z ++ (lines_of ys ++ s) in
    let later : lines_of xs ++ r ≡ lines_of ys ++ s = append_cancel_left (line_of x) (lines_of xs ++ r) (lines_of ys ++ s) (subst P (sym first) whole) in
    ap (λ z. z ∷ xs) first ∙ ap (λ zs. y ∷ zs) (same_entries policy xs ys r s a.1 b.1 ends stops later)

-- what stands behind the version line decides
lines_same : (policy : Policy) (x y : List ℕ) → head_of policy ++ x ≡ head_of policy ++ y → x ≡ y
lines_same policy x y same = append_cancel_left (head_of policy) x y same

-- nothing begins with no line
nothing_of : (policy : Policy) → BeginsWithNoLineOf policy []
nothing_of policy = no_line_of policy [] nothing_begins

-- equal texts are of equal histories
pub one_text : (policy : Policy) (h g : List Entry) → AreEntriesOf policy h → AreEntriesOf policy g → text_of policy h ≡ text_of policy g → h ≡ g
unfolding text_of
one_text policy h g a b same =
    same_entries policy h g [] [] a b (nothing_of policy) (nothing_of policy) (append-nil (lines_of h) ∙ lines_same policy (lines_of h) (lines_of g) same ∙ sym (append-nil (lines_of g)))

pub entries_more : (policy : Policy) (h : List Entry) (e : Entry) → AreEntriesOf policy h → IsEntryOf policy e → AreEntriesOf policy (h ++ e ∷ [])
entries_more policy [] e all valid = (valid, tt)
entries_more policy (x ∷ h) e all valid = (all.0, entries_more policy h e all.1 valid)

lines_push : (h : List Entry) (e : Entry) → lines_of (h ++ e ∷ []) ≡ lines_of h ++ line_of e
unfolding lines_of
lines_push [] e = append-nil (line_of e)
lines_push (x ∷ h) e = ap (λ t. line_of x ++ t) (lines_push h e) ∙ sym (append_assoc (line_of x) (lines_of h) (line_of e))

-- one more line
pub lines_more : (bytes : List ℕ) (h : List Entry) (e : Entry) (rest more : List ℕ) → lines_of h ++ rest ≡ bytes → line_of e ++ more ≡ rest → lines_of (h ++ e ∷ []) ++ more ≡ bytes
lines_more bytes h e rest more whole next =
    ap (λ t. t ++ more) (lines_push h e) ∙ append_assoc (lines_of h) (line_of e) more ∙ ap (λ t. lines_of h ++ t) next ∙ whole

pub shorter : (e : Entry) (more rest : List ℕ) → line_of e ++ more ≡ rest → length more < length rest
unfolding line_of
shorter e more rest is = let long = simp length-append at (ap length is) in omega arith

-- a text's head, and its lines up to some place
pub text_up_to : (policy : Policy) (h : List Entry) (rest lines : List ℕ) → lines_of h ++ rest ≡ lines → text_of policy h ++ rest ≡ head_of policy ++ lines
unfolding text_of
text_up_to policy h rest lines whole = append_assoc (head_of policy) (lines_of h) rest ∙ ap (λ t. head_of policy ++ t) whole

pub nothing_left : (rest : List ℕ) → (length rest == 0) ≡ true → rest ≡ []
nothing_left [] none = refl
nothing_left (b ∷ rest) none = let never : suc (length rest) ≡ 0 = eqb-true (suc (length rest)) 0 none in absurd (omega arith)

pub some_left : (rest : List ℕ) → (length rest == 0) ≡ false → 0 < length rest
some_left [] some = let never : true ≡ false = some in absurd (cc)
some_left (b ∷ rest) some = omega arith

-- a text that is read to its end
pub text_read : (policy : Policy) (h : List Entry) (rest lines : List ℕ) → AreEntriesOf policy h → lines_of h ++ rest ≡ lines → (length rest == 0) ≡ true → IsTextOf policy (head_of policy ++ lines) h
unfolding text_of
text_read policy h rest lines all whole none =
    let ended : lines_of h ≡ lines = sym (append-nil (lines_of h)) ∙ ap (λ t. lines_of h ++ t) (sym (nothing_left rest none)) ∙ whole in
    (all, ap (λ t. head_of policy ++ t) ended)

-- a text that is read up to a bad line
pub text_stopped : (policy : Policy) (h : List Entry) (rest lines : List ℕ) (n : ℕ) → AreEntriesOf policy h → lines_of h ++ rest ≡ lines → (length rest == 0) ≡ false → BeginsWithNoLineOf policy rest → n ≡ line_number policy (length h) → IsFirstBadLine policy (head_of policy ++ lines) n
text_stopped policy h rest lines n all whole some bad number = record {
  before = h;
  rest = rest;
  entries = all;
  whole = text_up_to policy h rest lines whole;
  some = some_left rest some;
  bad = bad;
  number = number;
}

-- ---- policies

-- the version line spells no entry
no_version : SpellsNone (codes "history 2")
unfolding entry_of entry_by
no_version = unread (codes "history 2") refl

-- no text of the first policy begins with the version line
lines_no_version : (h : List Entry) (rest : List ℕ) → AreEntriesOf One h → lines_of h ≡ version_line ++ rest → ⊥
unfolding lines_of
lines_no_version [] rest all is = cc
lines_no_version (e ∷ h) rest all is =
    no_version e all.0.0 (sym (before_feed e (lines_of h) all.0.0) ∙ ap (before 10) is)

-- a text that is told to begin with the version line does
pub begins : (bytes : List ℕ) → starts_with nat_eq bytes version_line ≡ true → bytes ≡ version_line ++ drop 10 bytes
begins bytes is = (starts_is Decides-eqb bytes version_line (starts_with nat_eq bytes version_line) refl).0 is

-- a text of the first policy does not
first_policy : (bytes : List ℕ) (h : List Entry) → AreEntriesOf One h → lines_of h ≡ bytes → (told : Bool) → starts_with nat_eq bytes version_line ≡ told → (if told then Two else One) ≡ One
first_policy bytes h all is true told = absurd (lines_no_version h (drop 10 bytes) all (is ∙ begins bytes told))
first_policy bytes h all is false told = refl

-- a text tells its policy
pub policy_told : (policy : Policy) (bytes : List ℕ) (h : List Entry) → IsTextOf policy bytes h → policy_of bytes ≡ policy
unfolding text_of
policy_told One bytes h is = first_policy bytes h is.0 is.1 (starts_with nat_eq bytes version_line) refl
policy_told Two bytes h is = rw (sym is.1) refl

-- so it is of one policy at most
pub one_policy : (p q : Policy) (h g : List Entry) → AreEntriesOf p h → AreEntriesOf q g → text_of p h ≡ text_of q g → p ≡ q
one_policy p q h g a b same = sym (policy_told p (text_of p h) h (a, refl)) ∙ policy_told q (text_of p h) g (b, sym same)

-- ---- the answers

length_zero : (rest : List ℕ) → 0 < length rest → rest ≡ [] → ⊥
length_zero [] some is = omega arith
length_zero (b ∷ rest) some is = cc

text_or_bad : (policy : Policy) (bytes : List ℕ) (h : List Entry) (n : ℕ) → IsTextOf policy bytes h → IsFirstBadLine policy bytes n → ⊥
unfolding text_of
text_or_bad policy bytes h n is first =
    let whole : head_of policy ++ (lines_of first.before ++ first.rest) ≡ bytes = sym (append_assoc (head_of policy) (lines_of first.before) first.rest) ∙ first.whole in
    let same : lines_of h ++ [] ≡ lines_of first.before ++ first.rest = append-nil (lines_of h) ∙ lines_same policy (lines_of h) (lines_of first.before ++ first.rest) (is.1 ∙ sym whole) in
    let equal : h ≡ first.before = same_entries policy h first.before [] first.rest is.0 first.entries (nothing_of policy) first.bad same in
    let P : List Entry → Type 0 = λ g. lines_of h ++ [] ≡ lines_of g ++ first.rest in
    let none : [] ≡ first.rest = append_cancel_left (lines_of h) [] first.rest (subst P (sym equal) same) in
    length_zero first.rest first.some (sym none)

one_number : (policy : Policy) (bytes : List ℕ) (n m : ℕ) → IsFirstBadLine policy bytes n → IsFirstBadLine policy bytes m → n ≡ m
unfolding text_of
one_number policy bytes n m a b =
    let left = append_assoc (head_of policy) (lines_of a.before) a.rest in
    let right = append_assoc (head_of policy) (lines_of b.before) b.rest in
    let same : lines_of a.before ++ a.rest ≡ lines_of b.before ++ b.rest = lines_same policy (lines_of a.before ++ a.rest) (lines_of b.before ++ b.rest) (sym left ∙ a.whole ∙ sym b.whole ∙ right) in
    let equal : a.before ≡ b.before = same_entries policy a.before b.before a.rest b.rest a.entries b.entries a.bad b.bad same in
    a.number ∙ ap (λ (h : List Entry). line_number policy (length h)) equal ∙ sym b.number

abbrev Answer : Type 0
Answer = Result (Policy × List Entry) TextStop

abbrev IsRead : List ℕ → Answer → Type 0
IsRead bytes result = IfOk result (λ p. IsTextOf p.0 bytes p.1)

abbrev IsBad : List ℕ → Answer → Type 0
IsBad bytes result = (n : ℕ) → result ≡ Err (BadLine n) → IsFirstBadLine (policy_of bytes) bytes n

abbrev pair : Policy → List Entry → Policy × List Entry
pair policy h = (policy, h)

same_answer : (bytes : List ℕ) (p q : Policy) (g h : List Entry) → IsTextOf p bytes g → IsTextOf q bytes h → pair p g ≡ pair q h
same_answer bytes p q g h a b =
    let policy : p ≡ q = sym (policy_told p bytes g a) ∙ policy_told q bytes h b in
    let P : Policy → Type 0 = λ r. IsTextOf r bytes g in
    let moved : IsTextOf q bytes g = subst P policy a in
    let history : g ≡ h = one_text q g h moved.0 b.0 (moved.1 ∙ sym b.1) in
    ap (λ r. pair r g) policy ∙ ap (pair q) history

-- the policy and the history whose text it is are answered, or memory ran out
pub text_answered : (bytes : List ℕ) (result : Answer) → IsRead bytes result → IsBad bytes result → (policy : Policy) (h : List Entry) → IsTextOf policy bytes h → (result ≡ Ok (policy, h)) ⊎ (result ≡ Err NoMemory)
text_answered bytes (Ok (p, g)) good bad policy h is = inl (ap (λ (x : Policy × List Entry). Ok x) (same_answer bytes p policy g h good is))
text_answered bytes (Err (BadLine n)) good bad policy h is =
    let P : Policy → Type 0 = λ r. IsTextOf r bytes h in
    absurd (text_or_bad (policy_of bytes) bytes h n (subst P (sym (policy_told policy bytes h is)) is) (bad n refl))
text_answered bytes (Err NoMemory) good bad policy h is = inr refl

-- the first bad line is answered, or memory ran out
pub bad_answered : (bytes : List ℕ) (result : Answer) → IsRead bytes result → IsBad bytes result → (n : ℕ) → IsFirstBadLine (policy_of bytes) bytes n → (result ≡ Err (BadLine n)) ⊎ (result ≡ Err NoMemory)
bad_answered bytes (Ok (p, g)) good bad n is =
    let P : Policy → Type 0 = λ r. IsTextOf r bytes g in
    absurd (text_or_bad (policy_of bytes) bytes g n (subst P (sym (policy_told p bytes g good)) good) is)
bad_answered bytes (Err (BadLine m)) good bad n is = inl (ap (λ (k : ℕ). Err (BadLine k)) (one_number (policy_of bytes) bytes m n (bad m refl) is))
bad_answered bytes (Err NoMemory) good bad n is = inr refl

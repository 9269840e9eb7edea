-- Two legal histories with equal texts are equal: a line shows the object of its entry, and of one object at most one entry may follow.
use Rattle.std.proofs.Common.{◌≡◌, ℕ, ◌^◌, ◌<◌, List, [], ◌∷◌, ◌++◌, length, take, Some, refl, ap, sym, ◌∙◌, subst, arith, append_assoc}
use Rattle.std.specs.List.{slice_get}
use Rattle.std.proofs.lemmas.List.{append_cancel_left}
use Rattle.history_entry.specs.declared.entry.Entry.{Entry}
use Rattle.history_entry.specs.declared.entry.Entry.TheVariants.{Commit, Hop, Local, Said}
use Rattle.history_entry.specs.declared.entry.HopOf.TheVariants.{Nav, Req}
use Rattle.entry_text.specs.Lines.{line_of}
use Rattle.script_model.specs.ScriptData.{ScriptData}
use Rattle.service_rule.specs.Services.{ServiceRule}
use Rattle.history_steps.proofs.Induction.{legal_take}
use Rattle.history_steps.proofs.OneEach.{at_most_one}
use Rattle.history_steps.proofs.Rows.{commit_row, local_row, said_row}
use Rattle.history_steps.specs.MayFollow.{MayFollow}
use Rattle.history_steps.specs.Objects.{HasOneSpelling}
use Rattle.history_steps.specs.Run.{Legal}
use Rattle.history_steps.specs.ScriptLimits.{IsWithinLimits}
use Rattle.history_entries.specs.Text.{head_of, lines_of, text_of}
use Rattle.history_laws.proofs.Bound.{locked_few, numbers_few}
use Rattle.history_laws.proofs.EntryKinds.{number_of}
use Rattle.history_laws.proofs.LineObjects.{AreSmall, object_same, shown_first, tag, tag_is, text_tag}

below_word : (n : ℕ) → n < 4096 → n < 2 ^ 64
below_word n few = omega arith

small : (rule : ServiceRule) (s : ScriptData) (h : List Entry) (e : Entry) → IsWithinLimits s → Legal rule s h → MayFollow rule s h e → AreSmall (shown_first e) (number_of e)
small rule s h (Said p d k m reply) limits legal may = record {
  first = below_word p (omega (arith, locked_few rule s h p legal (said_row rule s h p d k m reply may).locked));
  second = below_word d (numbers_few rule s h (Said p d k m reply) limits legal may);
}
small rule s h (Local p d k what) limits legal may = record {
  first = below_word p (omega (arith, locked_few rule s h p legal (local_row rule s h p d k what may).locked));
  second = below_word d (numbers_few rule s h (Local p d k what) limits legal may);
}
small rule s h (Commit p n origin url reply) limits legal may = record {
  first = below_word p (omega (arith, locked_few rule s h p legal (commit_row rule s h p n origin url reply may).locked));
  second = below_word n (numbers_few rule s h (Commit p n origin url reply) limits legal may);
}
small rule s h e limits legal may = record { first = below_word 0 (omega arith); second = below_word (number_of e) (numbers_few rule s h e limits legal may) }

-- ---- histories that begin alike go on alike

pub not_empty : (e : Entry) → tag e ≡ 0 → ⊥
not_empty (Hop (Nav n) url) is = omega arith
not_empty (Hop (Req r) url) is = omega arith
not_empty _ is = omega arith

-- the entry after some others, and what stands before it
after : (xs ys : List Entry) (e : Entry) → slice_get (xs ++ e ∷ ys) (length xs) ≡ Some e
after [] ys e = refl
after (x ∷ xs) ys e = after xs ys e

before_it : (xs ys : List Entry) → take (length xs) (xs ++ ys) ≡ xs
before_it [] ys = refl
before_it (x ∷ xs) ys = ap (λ zs. x ∷ zs) (before_it xs ys)

first_part : (rule : ServiceRule) (s : ScriptData) (xs ys : List Entry) → Legal rule s (xs ++ ys) → Legal rule s xs
first_part rule s xs ys legal = subst (Legal rule s) (before_it xs ys) (legal_take rule s (xs ++ ys) (length xs) legal)

next_may : (rule : ServiceRule) (s : ScriptData) (xs ys : List Entry) (e : Entry) → Legal rule s (xs ++ e ∷ ys) → MayFollow rule s xs e
next_may rule s xs ys e legal =
    let P : List Entry → Type 0 = λ g. MayFollow rule s g e in
    subst P (before_it xs (e ∷ ys)) (legal (length xs) e (after xs ys e))

-- two lines that begin equal texts are those of one entry
same_entry : (rule : ServiceRule) (s : ScriptData) (h : List Entry) (a b : Entry) (u v : List ℕ) → IsWithinLimits s → Legal rule s h → MayFollow rule s h a → MayFollow rule s h b → line_of a ++ u ≡ line_of b ++ v → a ≡ b
same_entry rule s h a b u v limits legal x y e =
    let tags : tag a ≡ tag b = sym (tag_is a u) ∙ ap text_tag e ∙ tag_is b v in
    at_most_one rule s h a b legal x y (object_same a b u v (small rule s h a limits legal x) (small rule s h b limits legal y) tags e)

go_on : (rule : ServiceRule) (s : ScriptData) → IsWithinLimits s → (before xs ys : List Entry) → Legal rule s (before ++ xs) → Legal rule s (before ++ ys) → lines_of xs ≡ lines_of ys → xs ≡ ys
unfolding lines_of
go_on rule s limits before [] [] a b e = refl
go_on rule s limits before [] (y ∷ ys) a b e = absurd (not_empty y (sym (tag_is y (lines_of ys)) ∙ ap text_tag (sym e)))
go_on rule s limits before (x ∷ xs) [] a b e = absurd (not_empty x (sym (tag_is x (lines_of xs)) ∙ ap text_tag e))
go_on rule s limits before (x ∷ xs) (y ∷ ys) a b e =
    let same : x ≡ y = same_entry rule s before x y (lines_of xs) (lines_of ys) limits (first_part rule s before (x ∷ xs) a) (next_may rule s before xs x a) (next_may rule s before ys y b) e in
    let P : Entry → Type 0 = λ z. Legal rule s (before ++ z ∷ ys) in
    let Q : Entry → Type 0 = λ z. line_of x ++ lines_of xs ≡ line_of z ++ lines_of ys in
    let rest : lines_of xs ≡ lines_of ys = append_cancel_left (line_of x) (lines_of xs) (lines_of ys) (subst Q (sym same) e) in
    let one : Legal rule s ((before ++ x ∷ []) ++ xs) = subst (Legal rule s) (sym (append_assoc before (x ∷ []) xs)) a in
    let two : Legal rule s ((before ++ x ∷ []) ++ ys) = subst (Legal rule s) (sym (append_assoc before (x ∷ []) ys)) (subst P (sym same) b) in
    ap (λ z. z ∷ xs) same ∙ ap (λ zs. y ∷ zs) (go_on rule s limits (before ++ x ∷ []) xs ys one two rest)

-- two legal histories with equal texts are equal
pub has_one_spelling : (rule : ServiceRule) (s : ScriptData) → HasOneSpelling rule s
unfolding text_of
has_one_spelling rule s limits policy h g a b e = go_on rule s limits [] h g a b (append_cancel_left (head_of policy) (lines_of h) (lines_of g) e)

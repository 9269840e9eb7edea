-- A text has one audit.
use Rattle.std.proofs.Common.{◌≡◌, ◌⊎◌, ℕ, ◌<◌, List, [], take, None, Some, Ok, Err, inl, inr, sym, ap, ◌∙◌, subst, arith}
use Rattle.std.specs.Prelude.{IfOk, Result, option_map}
use Rattle.std.specs.List.{slice_get}
use Rattle.std.proofs.lemmas.Bool.{cases_order}
use Rattle.std.proofs.lemmas.List.{take-take}
use Rattle.history_entry.specs.Kinds.{kind_of}
use Rattle.history_entry.specs.declared.entry.Entry.{Entry}
use Rattle.history_entry.specs.declared.entry.EntryKind.{EntryKind}
use Rattle.script_model.specs.ScriptData.{ScriptData}
use Rattle.service_rule.specs.Services.{ServiceRule}
use Rattle.history_rules.proofs.Growth.{in_take}
use Rattle.history_steps.specs.MayFollow.{MayFollow}
use Rattle.history_steps.specs.Nexts.{nexts}
use Rattle.history_steps.specs.Run.{Legal}
use Rattle.history_text.specs.Texts.{IsFirstBadLine, IsTextOf, line_number, policy_of}
use Rattle.history_entry.specs.declared.policy.Policy.{Policy}
use Rattle.history_text.specs.declared.stop.TextStop.{TextStop}
use Rattle.history_text.specs.declared.stop.TextStop.TheVariants.{BadLine as StopsAt, NoMemory as NoRoom}
use Rattle.history_text.proofs.Lines.{bad_answered, one_text, text_answered}
use Rattle.audit_run.specs.Audits.{HoldsOfText, IsAudit, IsFirstIllegal, IsIllegalAt, IsTold, IsToldOfText, IsUnfinishedAt, under_text}
use Rattle.audit_run.specs.declared.answer.Audit.{Audit}
use Rattle.audit_run.specs.declared.answer.Audit.TheVariants.{BadLine, Entry as BadEntry, Legal as IsLegal, Unfinished}

-- ---- texts

-- a text is that of one history
same_history : (text : List ℕ) (h g : List Entry) → IsTextOf (policy_of text) text h → IsTextOf (policy_of text) text g → h ≡ g
same_history text h g a b = one_text (policy_of text) h g a.0 b.0 (a.1 ∙ sym b.1)

-- what is answered of a text that has a bad line
abbrev Answer : Type 0
Answer = Result (Policy × List Entry) TextStop

abbrev stops_at : ℕ → Answer
stops_at n = Err (StopsAt n)

only_line : (text : List ℕ) (n : ℕ) → IsFirstBadLine (policy_of text) text n → (k : ℕ) → stops_at n ≡ stops_at k → IsFirstBadLine (policy_of text) text k
only_line text n bad k is = let same : n ≡ k = cc in subst (λ (m : ℕ). IsFirstBadLine (policy_of text) text m) same bad

-- the first bad line has one number
one_line : (text : List ℕ) (n m : ℕ) → IsFirstBadLine (policy_of text) text n → IsFirstBadLine (policy_of text) text m → n ≡ m
one_line text n m a b = from_answer (bad_answered text (stops_at n) tt (only_line text n a) m b)
  where
    from_answer : (stops_at n ≡ stops_at m) ⊎ (stops_at n ≡ Err NoRoom) → n ≡ m
    from_answer (inl is) = cc
    from_answer (inr is) = absurd (cc)

-- the text of a history has no bad line
no_bad_line : (text : List ℕ) (h : List Entry) (n : ℕ) → IsTextOf (policy_of text) text h → IsFirstBadLine (policy_of text) text n → ⊥
no_bad_line text h n is bad = from_answer (text_answered text (stops_at n) tt (only_line text n bad) (policy_of text) h is)
  where
    from_answer : (stops_at n ≡ Ok (policy_of text, h)) ⊎ (stops_at n ≡ Err NoRoom) → ⊥
    from_answer (inl is) = cc
    from_answer (inr is) = cc

module _ (rule : ServiceRule) (s : ScriptData) (h : List Entry) where
  -- ---- histories

  -- an entry that may not follow stands behind no other such
  not_before : (i j : ℕ) → IsFirstIllegal rule s h i → IsFirstIllegal rule s h j → i < j → ⊥
  not_before i j a b less =
      let may : MayFollow rule s (take i (take j h)) a.entry = b.before i a.entry (in_take h i j a.entry less a.there) in
      let same : take i (take j h) ≡ take i h = take-take i j h (omega arith) in
      a.illegal (subst (λ g. MayFollow rule s g a.entry) same may)

  -- so there is one first
  one_place : (i j : ℕ) → IsFirstIllegal rule s h i → IsFirstIllegal rule s h j → i ≡ j
  one_place i j a b = by_order (cases_order i j)
    where
      by_order : (i ≡ j) ⊎ ((i < j) ⊎ (j < i)) → i ≡ j
      by_order (inl same) = same
      by_order (inr (inl less)) = absurd (not_before i j a b less)
      by_order (inr (inr more)) = absurd (not_before j i b a more)

  -- in a legal history there is none
  none_illegal : Legal rule s h → (n : ℕ) → IsIllegalAt rule s h n → ⊥
  none_illegal legal n a = a.first.illegal (legal a.place a.first.entry a.first.there)

  -- a finished history is not unfinished
  none_missing : nexts rule s h ≡ [] → (kind : EntryKind) → IsUnfinishedAt rule s h kind → ⊥
  none_missing finished kind a =
      let none : None ≡ Some kind = ap (λ xs. option_map kind_of (slice_get xs 0)) (sym finished) ∙ a.next in
      cc

  -- one thing is told of a history
  told_once : (a b : Audit) → IsTold rule s h a → IsTold rule s h b → a ≡ b
  told_once (IsLegal n) (IsLegal m) x y = ap (λ (k : ℕ). IsLegal k) (x.count ∙ sym y.count)
  told_once (IsLegal n) (BadLine m) x y = absurd y
  told_once (IsLegal n) (BadEntry m) x y = absurd (none_illegal x.legal m y)
  told_once (IsLegal n) (Unfinished kind) x y = absurd (none_missing x.finished kind y)
  told_once (BadLine n) b x y = absurd x
  told_once (BadEntry n) (IsLegal m) x y = absurd (none_illegal y.legal n x)
  told_once (BadEntry n) (BadLine m) x y = absurd y
  told_once (BadEntry n) (BadEntry m) x y =
      ap (λ (k : ℕ). BadEntry k) (x.line ∙ ap (line_number s.policy) (one_place x.place y.place x.first y.first) ∙ sym y.line)
  told_once (BadEntry n) (Unfinished kind) x y = absurd (none_illegal y.legal n x)
  told_once (Unfinished kind) (IsLegal m) x y = absurd (none_missing y.finished kind x)
  told_once (Unfinished kind) (BadLine m) x y = absurd y
  told_once (Unfinished kind) (BadEntry m) x y = absurd (none_illegal x.legal m y)
  told_once (Unfinished kind) (Unfinished other) x y = let same : Some kind ≡ Some other = sym x.next ∙ y.next in cc

-- ---- audits

module _ (rule : ServiceRule) (s : ScriptData) (text : List ℕ) where
  -- one thing is told of a text's history
  told_of_text_once : (a b : Audit) → IsToldOfText rule s text a → IsToldOfText rule s text b → a ≡ b
  told_of_text_once a b (h, is, x) (g, same, y) =
      let P : List Entry → Type 0 = λ k. IsTold rule (under_text text s) k b in
      told_once rule (under_text text s) h a b x (subst P (same_history text g h same is) y)

  -- and nothing of one with a bad line
  none_told : (a : Audit) (n : ℕ) → IsToldOfText rule s text a → IsFirstBadLine (policy_of text) text n → ⊥
  none_told a n (h, is, x) bad = no_bad_line text h n is bad

  pub one_audit : (a b : Audit) → IsAudit rule s text a → IsAudit rule s text b → a ≡ b
  one_audit (BadLine n) (BadLine m) x y = ap (λ (k : ℕ). BadLine k) (one_line text n m x y)
  one_audit (BadLine n) (IsLegal m) x y = absurd (none_told (IsLegal m) n y x)
  one_audit (BadLine n) (BadEntry m) x y = absurd (none_told (BadEntry m) n y x)
  one_audit (BadLine n) (Unfinished kind) x y = absurd (none_told (Unfinished kind) n y x)
  one_audit (IsLegal n) (BadLine m) x y = absurd (none_told (IsLegal n) m x y)
  one_audit (IsLegal n) (IsLegal m) x y = told_of_text_once (IsLegal n) (IsLegal m) x y
  one_audit (IsLegal n) (BadEntry m) x y = told_of_text_once (IsLegal n) (BadEntry m) x y
  one_audit (IsLegal n) (Unfinished kind) x y = told_of_text_once (IsLegal n) (Unfinished kind) x y
  one_audit (BadEntry n) (BadLine m) x y = absurd (none_told (BadEntry n) m x y)
  one_audit (BadEntry n) (IsLegal m) x y = told_of_text_once (BadEntry n) (IsLegal m) x y
  one_audit (BadEntry n) (BadEntry m) x y = told_of_text_once (BadEntry n) (BadEntry m) x y
  one_audit (BadEntry n) (Unfinished kind) x y = told_of_text_once (BadEntry n) (Unfinished kind) x y
  one_audit (Unfinished kind) (BadLine m) x y = absurd (none_told (Unfinished kind) m x y)
  one_audit (Unfinished kind) (IsLegal m) x y = told_of_text_once (Unfinished kind) (IsLegal m) x y
  one_audit (Unfinished kind) (BadEntry m) x y = told_of_text_once (Unfinished kind) (BadEntry m) x y
  one_audit (Unfinished kind) (Unfinished other) x y = told_of_text_once (Unfinished kind) (Unfinished other) x y

  -- ---- answers

  -- no other audit is answered
  pub audit_answered : {E : Type 0} (result : Result Audit E) → IfOk result (IsAudit rule s text) → (a : Audit) → IsAudit rule s text a → IfOk result (λ told. told ≡ a)
  audit_answered (Ok b) good a is = one_audit b a good is
  audit_answered (Err why) good a is = tt

  -- the history of a text that passes is legal
  pub passing_legal : {E : Type 0} (result : Result Audit E) (n : ℕ) → IfOk result (IsAudit rule s text) → result ≡ Ok (IsLegal n) → HoldsOfText text (Legal rule (under_text text s))
  passing_legal {E} result n good is h whose =
      let told : IsToldOfText rule s text (IsLegal n) = subst (λ (r : Result Audit E). IfOk r (IsAudit rule s text)) is good in
      subst (Legal rule (under_text text s)) (same_history text told.0 h told.1 whose) told.2.legal

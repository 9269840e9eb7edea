-- What an audit tells of a text: of which history it is the text, under the policy that the text has, and whether that history is legal
-- and finished for the script with that policy. Own rules.
use Rattle.std.specs.Prelude.{◌≡◌, ℕ, List, Some, length, option_map, slice_get, take}
use Rattle.history_entry.specs.Kinds.{kind_of}
use Rattle.history_entry.specs.declared.entry.Entry.{Entry}
use Rattle.history_entry.specs.declared.entry.EntryKind.{EntryKind}
use Rattle.history_entry.specs.declared.policy.Policy.{Policy}
use Rattle.script_model.specs.ScriptData.{ScriptData}
use Rattle.service_rule.specs.Services.{ServiceRule}
use Rattle.history_steps.specs.MayFollow.{MayFollow}
use Rattle.history_steps.specs.Run.{Finished, IsRun, Legal, first_next}
use Rattle.history_entries.specs.Text.{text_of}
use Rattle.history_text.specs.Texts.{IsFirstBadLine, IsTextOf, line_number, policy_of}
use Rattle.audit_run.specs.declared.answer.Audit.{Audit}
use Rattle.audit_run.specs.declared.answer.Audit.TheVariants.{BadLine, Entry as BadEntry, Legal as IsLegal, Unfinished}

-- the script with a policy, and all else as it was
abbrev pub with_policy : Policy → ScriptData → ScriptData
with_policy policy s = record s { policy = policy }

-- the script with the policy of a text
abbrev pub under_text : List ℕ → ScriptData → ScriptData
under_text text s = with_policy (policy_of text) s

-- the entry at place i is the first that may not follow those before it
pub record IsFirstIllegal (rule : ServiceRule) (s : ScriptData) (h : List Entry) (i : ℕ) : Type 0 where
  pub entry : Entry
  pub there : slice_get h i ≡ Some entry
  pub before : Legal rule s (take i h)
  pub illegal : ¬ MayFollow rule s (take i h) entry

-- a legal history that is finished, of n entries
pub record IsFinishedWith (rule : ServiceRule) (s : ScriptData) (h : List Entry) (n : ℕ) : Type 0 where
  pub legal : Legal rule s h
  pub finished : Finished rule s h
  pub count : n ≡ length h

-- a history that is not legal: its first entry that may not follow those before it stands on line n
pub record IsIllegalAt (rule : ServiceRule) (s : ScriptData) (h : List Entry) (n : ℕ) : Type 0 where
  pub place : ℕ
  pub first : IsFirstIllegal rule s h place
  pub line : n ≡ line_number s.policy place

-- a legal history that is not finished: the first of the entries that may follow is of this kind
pub record IsUnfinishedAt (rule : ServiceRule) (s : ScriptData) (h : List Entry) (kind : EntryKind) : Type 0 where
  pub legal : Legal rule s h
  pub next : option_map kind_of (first_next rule s h) ≡ Some kind

-- what is told of a history
abbrev pub IsTold : ServiceRule → ScriptData → List Entry → Audit → Type 0
IsTold rule s h (IsLegal n) = IsFinishedWith rule s h n
IsTold rule s h (BadLine n) = ⊥
IsTold rule s h (BadEntry n) = IsIllegalAt rule s h n
IsTold rule s h (Unfinished kind) = IsUnfinishedAt rule s h kind

-- what is told of the history whose text it is
abbrev pub IsToldOfText : ServiceRule → ScriptData → List ℕ → Audit → Type 0
IsToldOfText rule s text a = (h : List Entry) × IsTextOf (policy_of text) text h × IsTold rule (under_text text s) h a

-- P holds of the history whose text it is
abbrev pub HoldsOfText : List ℕ → (List Entry → Type 0) → Type 0
HoldsOfText text P = (h : List Entry) → IsTextOf (policy_of text) text h → P h

-- what an audit tells of a text: the first bad line, where there is one, and else what is told of its history
abbrev pub IsAudit : ServiceRule → ScriptData → List ℕ → Audit → Type 0
IsAudit rule s text (BadLine n) = IsFirstBadLine (policy_of text) text n
IsAudit rule s text (IsLegal n) = IsToldOfText rule s text (IsLegal n)
IsAudit rule s text (BadEntry n) = IsToldOfText rule s text (BadEntry n)
IsAudit rule s text (Unfinished kind) = IsToldOfText rule s text (Unfinished kind)

-- two audits of one text are equal
abbrev pub HasOneAudit : ServiceRule → ScriptData → Type 0
HasOneAudit rule s = (text : List ℕ) (a b : Audit) → IsAudit rule s text a → IsAudit rule s text b → a ≡ b

-- the text of each finished legal history, under either policy, passes
abbrev pub HistoriesPass : ServiceRule → ScriptData → Type 0
HistoriesPass rule s = (policy : Policy) (h : List Entry) → Legal rule (with_policy policy s) h → Finished rule (with_policy policy s) h
    → IsAudit rule s (text_of policy h) (IsLegal (length h))

-- the text of a run passes
abbrev pub RunsPass : ServiceRule → ScriptData → Type 0
RunsPass rule s = (h : List Entry) → IsRun rule s h → IsAudit rule s (text_of s.policy h) (IsLegal (length h))

-- The objects of entries, and what is promised of legal histories: of one object at most one entry may follow, the list of next
-- entries is complete, there is one run, a history is short, and its text fixes it. Own rules.
use Rattle.std.specs.Prelude.{◌≡◌, ◌≢◌, ◌<◌, ◌++◌, ◌∷◌, [], ◌↔◌, Contains, List, length, ℕ}
use Rattle.history_entry.specs.declared.entry.Entry.{Entry}
use Rattle.history_entry.specs.declared.entry.Entry.TheVariants.{Commit, Crash, End, Exit, Head, Hop, Local, NavEnd, Opened, Order, Piece, Said, Warm}
use Rattle.history_entry.specs.declared.entry.HopOf.TheVariants.{Nav, Req}
use Rattle.history_entry.specs.declared.policy.Policy.{Policy}
use Rattle.script_model.specs.ScriptData.{ScriptData}
use Rattle.history_rules.specs.Processes.{standing}
use Rattle.service_rule.specs.Services.{ServiceRule}
use Rattle.history_steps.specs.MayFollow.{MayFollow}
use Rattle.history_steps.specs.Nexts.{nexts}
use Rattle.history_steps.specs.Run.{IsRun, Legal}
use Rattle.history_steps.specs.ScriptLimits.{IsWithinLimits}
use Rattle.history_entries.specs.Text.{text_of}

-- what an entry is about: the next start page, the warm process, a navigation, a request, a document, an order or a process
pub data Object : Type 0 where
  StartPages : Object
  WarmProcess : Object
  NavigationOf : ℕ → Object
  RequestOf : ℕ → Object
  DocumentOf : ℕ → Object
  OrderOf : ℕ → Object
  ProcessOf : ℕ → Object

-- the object of an entry
abbrev pub object_of : Entry → Object
object_of (Opened k) = StartPages
object_of (Warm p) = WarmProcess
object_of (Hop (Nav n) url) = NavigationOf n
object_of (Hop (Req r) url) = RequestOf r
object_of (Order n p site origin url) = NavigationOf n
object_of (NavEnd n rule) = NavigationOf n
object_of (Said p d k message reply) = DocumentOf d
object_of (Crash p) = ProcessOf p
object_of (Commit p n origin url reply) = OrderOf n
object_of (Local p d k what) = DocumentOf d
object_of (Head r rule) = RequestOf r
object_of (Piece r i bytes) = RequestOf r
object_of (End r how) = RequestOf r
object_of (Exit p) = ProcessOf p

-- two entries of one object that may follow a legal history are equal
abbrev pub AtMostOne : ServiceRule → ScriptData → Type 0
AtMostOne rule s = (h : List Entry) (a b : Entry) → Legal rule s h
    → MayFollow rule s h a → MayFollow rule s h b → object_of a ≡ object_of b → a ≡ b

-- the list of the entries that may follow has each of them and no other
abbrev pub AreTheNexts : ServiceRule → ScriptData → Type 0
AreTheNexts rule s = (h : List Entry) (e : Entry) → Legal rule s h → Contains (nexts rule s h) e ↔ MayFollow rule s h e

-- a script within the limits has a run
abbrev pub HasRun : ServiceRule → ScriptData → Type 0
HasRun rule s = IsWithinLimits s → (h : List Entry) × IsRun rule s h

-- two runs are equal
abbrev pub HasOneRun : ServiceRule → ScriptData → Type 0
HasOneRun rule s = (h g : List Entry) → IsRun rule s h → IsRun rule s g → h ≡ g

-- a run is legal
abbrev pub RunsAreLegal : ServiceRule → ScriptData → Type 0
RunsAreLegal rule s = (h : List Entry) → IsRun rule s h → Legal rule s h

-- a legal history of a script within the limits has fewer than 400,000 entries
abbrev pub IsBounded : ServiceRule → ScriptData → Type 0
IsBounded rule s = IsWithinLimits s → (h : List Entry) → Legal rule s h → length h < 400000

-- two legal histories of a script within the limits with equal texts under one policy are equal. Without limits that fails, since
-- `decimal` writes at most 64 digits
abbrev pub HasOneSpelling : ServiceRule → ScriptData → Type 0
HasOneSpelling rule s = IsWithinLimits s → (policy : Policy) (h g : List Entry) → Legal rule s h → Legal rule s g
    → text_of policy h ≡ text_of policy g → h ≡ g

-- one more entry changes the standing of at most one process
abbrev pub ChangesOne : ServiceRule → ScriptData → Type 0
ChangesOne rule s = (h : List Entry) (e : Entry) (p q : ℕ) → Legal rule s (h ++ e ∷ [])
    → standing (h ++ e ∷ []) p ≢ standing h p → standing (h ++ e ∷ []) q ≢ standing h q → p ≡ q

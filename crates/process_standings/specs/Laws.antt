-- What the standings of a history tell of a longer one: numbers stand for sites, death is for good, and a dead process gets
-- nothing more.
use Rattle.std.specs.Prelude.{◌≡◌, List, Option, Some, false, option_and_then, take, ℕ}
use Rattle.page_origin.specs.declared.site.Site.{Site}
use Rattle.history_entry.specs.declared.entry.Entry.{Entry}
use Rattle.history_rules.specs.Documents.{process_of}
use Rattle.history_rules.specs.Processes.{lock_of}
use Rattle.history_rules.specs.Requests.{is_live_request, request_document}
use Rattle.history_steps.specs.MayFollow.{MayFollow}
use Rattle.history_steps.specs.Objects.{RequestOf, object_of}
use Rattle.history_steps.specs.Run.{Legal}
use Rattle.policy_table.specs.declared.standing.Standing.TheVariants.{Dead, Locked}
use Rattle.process_standings.specs.Standings.{table_standing}
use Rattle.script_model.specs.ScriptData.{ScriptData}
use Rattle.service_rule.specs.Services.{ServiceRule}

-- processes that are locked under one number, in a prefix and in the whole, are locked to one site
abbrev pub OneSiteANumber : Type 0
OneSiteANumber = (h : List Entry) (i p q n : ℕ)
    → table_standing (take i h) p ≡ Locked n → table_standing h q ≡ Locked n → lock_of (take i h) p ≡ lock_of h q

-- processes that are locked to one site are so under one number
abbrev pub OneNumberASite : Type 0
OneNumberASite = (h : List Entry) (i p q : ℕ) (site : Site)
    → lock_of (take i h) p ≡ Some site → lock_of h q ≡ Some site → table_standing (take i h) p ≡ table_standing h q

-- a process that is dead in a prefix is dead in the whole
abbrev pub DeadStayDead : Type 0
DeadStayDead = (h : List Entry) (i p : ℕ) → table_standing (take i h) p ≡ Dead → table_standing h p ≡ Dead

-- the process of a request's document
abbrev pub request_process : List Entry → ℕ → Option ℕ
request_process h r = option_and_then (process_of h) (request_document h r)

-- the process of a request's document in a prefix is its process in the whole
abbrev pub RequestsStay : ServiceRule → ScriptData → Type 0
RequestsStay rule s = (h : List Entry) (i r p : ℕ) → Legal rule s h
    → request_process (take i h) r ≡ Some p → request_process h r ≡ Some p

-- the request is not live, and no entry of it may follow
pub record GetsNothing (rule : ServiceRule) (s : ScriptData) (h : List Entry) (r : ℕ) : Type 0 where
  pub not_live : is_live_request s h r ≡ false
  pub none_follows : (e : Entry) → object_of e ≡ RequestOf r → MayFollow rule s h e → ⊥

-- a request whose document's process is dead gets nothing
abbrev pub DeadGetNothing : ServiceRule → ScriptData → Type 0
DeadGetNothing rule s = (h : List Entry) (r p : ℕ) → Legal rule s h
    → request_process h r ≡ Some p → table_standing h p ≡ Dead → GetsNothing rule s h r

-- nor does it where the process and its death show in prefixes
abbrev pub DeadGetNothingLater : ServiceRule → ScriptData → Type 0
DeadGetNothingLater rule s = (h : List Entry) (i j r p : ℕ) → Legal rule s h
    → request_process (take i h) r ≡ Some p → table_standing (take j h) p ≡ Dead → GetsNothing rule s h r

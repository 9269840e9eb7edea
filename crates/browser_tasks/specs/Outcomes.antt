-- What workers bring back, and which entries it may add. Own rules.
use Rattle.std.specs.Prelude.{◌≡◌, ◌≤◌, Bool, List, None, Option, Some, false, length, option_map, take, true, ⊤, ℕ}
use Rattle.history_entry.specs.declared.entry.EndHow.{EndHow}
use Rattle.history_entry.specs.declared.entry.EndHow.TheVariants.{Blocked, Failed, Whole}
use Rattle.history_entry.specs.declared.entry.Entry.{Entry}
use Rattle.history_entry.specs.declared.entry.Entry.TheVariants.{Crash, End, Head, Local, Piece, Said}
use Rattle.history_entry.specs.declared.entry.LocalWhat.{LocalWhat}
use Rattle.history_entry.specs.declared.entry.LocalWhat.TheVariants.{Skipped, Took, Waited}
use Rattle.history_entry.specs.declared.rule.Rule.{Rule}
use Rattle.history_entry.specs.declared.rule.Rule.TheVariants.{N7}
use Rattle.script_model.specs.ScriptData.{ScriptData}
use Rattle.history_rules.specs.Documents.{actions_done, process_of}
use Rattle.history_rules.specs.Processes.{is_dead}
use Rattle.history_rules.specs.Requests.{request_document}
use Rattle.history_rules.specs.declared.act.Act.{Act}
use Rattle.history_rules.specs.declared.act.Act.TheVariants as acts
use Rattle.service_rule.specs.Services.{ServiceRule}
use Rattle.history_steps.specs.MayFollow.{MayFollow}
use Rattle.history_steps.specs.Run.{Legal}
use Rattle.read_verdict.specs.declared.step.Step.{Step}
use Rattle.read_verdict.specs.declared.step.Step.TheVariants as steps
use Rattle.work_queue.specs.declared.task.BrowserJob.{BrowserJob}
use Rattle.work_queue.specs.declared.task.TaskKey.{TaskKey}
use Rattle.work_queue.specs.declared.task.TaskKey.TheVariants as keys
use Rattle.browser_tasks.specs.Candidates.{entry_of}
use Rattle.browser_tasks.specs.Objects.{Crashes, IsOfJob, is_taken_at_once}
use Rattle.browser_tasks.specs.declared.candidate.Candidate.{Candidate}
use Rattle.browser_tasks.specs.declared.outcome.ActDone.{ActDone}
use Rattle.browser_tasks.specs.declared.outcome.LoadDone.{LoadDone}
use Rattle.browser_tasks.specs.declared.outcome.Outcome.{Outcome}
use Rattle.browser_tasks.specs.declared.outcome.Outcome.TheVariants as outcomes

-- of which object its task is
abbrev pub outcome_key : Outcome → TaskKey
outcome_key (outcomes.Browser job) = keys.Browser job
outcome_key (outcomes.Act done) = keys.Act done.document
outcome_key (outcomes.Load done) = keys.Load done.request

-- the step has more behind it
abbrev pub has_more : Step → Bool
has_more (steps.Head cleared) = true
has_more (steps.Piece part) = true
has_more _ = false

-- the task goes on after its outcome was added
abbrev pub goes_on : Outcome → Bool
goes_on (outcomes.Load done) = has_more done.step
goes_on _ = false

-- what a document does by itself fits the act
abbrev pub Fits : Act → LocalWhat → Type 0
Fits acts.Wait Waited = ⊤
Fits acts.Recv (Took source text) = ⊤
Fits acts.Skip Skipped = ⊤
Fits _ _ = ⊥

-- an act of a document alone
abbrev pub IsDoneAlone : Act → Type 0
IsDoneAlone acts.Wait = ⊤
IsDoneAlone acts.Recv = ⊤
IsDoneAlone acts.Skip = ⊤
IsDoneAlone _ = ⊥

-- of an act: the Said of its document, number and message, with any reply, the Local of its document and number, and the crash of
-- its document where that is its next action
abbrev pub IsOfAct : ScriptData → List Entry → ActDone → Entry → Type 0
IsOfAct s h done (Said p d k message reply) = (d ≡ done.document) × (k ≡ done.action) × (done.act ≡ acts.Message message)
IsOfAct s h done (Local p d k what) = (d ≡ done.document) × (k ≡ done.action) × Fits done.act what
IsOfAct s h done (Crash p) = (done.act ≡ acts.Crash) × (actions_done h done.document ≡ done.action) × Crashes s h done.document p
IsOfAct s h done _ = ⊥

-- the head is by the rule of the step, or the step found the process dead
abbrev pub HeadsSo : Step → Rule → Type 0
HeadsSo (steps.Head cleared) why = why ≡ cleared.rule
HeadsSo steps.Gone why = ⊤
HeadsSo _ why = ⊥

-- the piece is that of the step, or the step found the process dead
abbrev pub IsPieceOf : Step → ℕ → List ℕ → Type 0
IsPieceOf (steps.Piece part) i bytes = (i ≡ part.index) × (bytes ≡ part.bytes)
IsPieceOf steps.Gone i bytes = ⊤
IsPieceOf _ i bytes = ⊥

-- the load ends as the step says, or the step found the process dead
abbrev pub EndsSo : Step → EndHow → Type 0
EndsSo steps.Whole Whole = ⊤
EndsSo (steps.Blocked rule) (Blocked why) = why ≡ rule
EndsSo steps.Fault (Failed why) = why ≡ N7
EndsSo steps.Gone how = ⊤
EndsSo _ _ = ⊥

-- of a step of the load of a request; of one that found the process dead every head, piece and end
abbrev pub IsOfStep : ℕ → Step → Entry → Type 0
IsOfStep r step (Head q why) = (q ≡ r) × HeadsSo step why
IsOfStep r step (Piece q i bytes) = (q ≡ r) × IsPieceOf step i bytes
IsOfStep r step (End q how) = (q ≡ r) × EndsSo step how
IsOfStep r step _ = ⊥

-- a load delivers only what is not taken at once
abbrev pub MayDeliver : ScriptData → List Entry → ℕ → Step → Type 0
MayDeliver s h r steps.Gone = ⊤
MayDeliver s h r _ = is_taken_at_once s h r ≡ false

-- the entries of an outcome at a history
abbrev pub IsEntryOf : ScriptData → List Entry → Outcome → Entry → Type 0
IsEntryOf s h (outcomes.Browser job) e = IsOfJob s h job e
IsEntryOf s h (outcomes.Act done) e = IsOfAct s h done e
IsEntryOf s h (outcomes.Load done) e = IsOfStep done.request done.step e × MayDeliver s h done.request done.step

-- one of them may follow
pub record CanFollow (rule : ServiceRule) (s : ScriptData) (h : List Entry) (outcome : Outcome) : Type 0 where
  pub entry : Entry
  pub is_of : IsEntryOf s h outcome entry
  pub follows : MayFollow rule s h entry

-- none of them may follow
pub record CannotFollow (rule : ServiceRule) (s : ScriptData) (h : List Entry) (outcome : Outcome) : Type 0 where
  pub none : (e : Entry) → IsEntryOf s h outcome e → MayFollow rule s h e → ⊥

-- two entries of one outcome that may follow a legal history are equal
abbrev pub HasOneNext : ServiceRule → ScriptData → Type 0
HasOneNext rule s = (h : List Entry) (outcome : Outcome) (a b : Entry) → Legal rule s h → IsEntryOf s h outcome a → IsEntryOf s h outcome b
    → MayFollow rule s h a → MayFollow rule s h b → a ≡ b

-- the candidate becomes one of them that may follow, and where there is none, none may
abbrev pub Answers : ServiceRule → ScriptData → List Entry → Outcome → Option Candidate → Type 0
Answers rule s h outcome None = CannotFollow rule s h outcome
Answers rule s h outcome (Some candidate) =
    IsEntryOf s h outcome (entry_of rule s h candidate) × MayFollow rule s h (entry_of rule s h candidate)

-- it answers so at a legal history, whatever its services' rule is
abbrev pub AnswersWell : ScriptData → List Entry → Outcome → Option Candidate → Type 0
AnswersWell s h outcome found = (rule : ServiceRule) → Legal rule s h → Answers rule s h outcome found

-- the same for the outcome of a job, of an act, of a step
abbrev pub AnswersJob : ScriptData → List Entry → BrowserJob → Option Candidate → Type 0
AnswersJob s h job = AnswersWell s h (outcomes.Browser job)

abbrev pub AnswersAct : ScriptData → List Entry → ℕ → ℕ → Act → Option Candidate → Type 0
AnswersAct s h d k act = AnswersWell s h (outcomes.Act (record { document = d; action = k; act = act }))

abbrev pub AnswersLoad : ScriptData → List Entry → ℕ → Step → Option Candidate → Type 0
AnswersLoad s h r step = AnswersWell s h (outcomes.Load (record { request = r; step = step }))

-- the leave of a head or a piece names the request
abbrev pub IsCleared : ℕ → Step → Type 0
IsCleared r (steps.Head cleared) = cleared.request ≡ r
IsCleared r (steps.Piece part) = part.cleared.request ≡ r
IsCleared r _ = ⊤

-- the process of a request's document is dead
abbrev pub IsHostDead : List Entry → ℕ → Type 0
IsHostDead h r = (d : ℕ) × (p : ℕ) × (request_document h r ≡ Some d) × (process_of h d ≡ Some p) × (is_dead h p ≡ true)

-- the process was dead after some of the entries, where the step says so
abbrev pub IsGoneFor : List Entry → ℕ → Step → Type 0
IsGoneFor h r steps.Gone = (i : ℕ) × IsHostDead (take i h) r
IsGoneFor h r _ = ⊤

-- what a step of a load comes with
abbrev pub IsVouched : List Entry → Outcome → Type 0
IsVouched h (outcomes.Load done) = IsCleared done.request done.step × IsGoneFor h done.request done.step
IsVouched h _ = ⊤

-- an outcome that may be brought back: one of its entries may follow some beginning of the history, and its steps come with what
-- they need. Once it is so, it stays so however the history grows
pub record IsOutcome (rule : ServiceRule) (s : ScriptData) (h : List Entry) (outcome : Outcome) : Type 0 where
  pub place : ℕ
  pub within : place ≤ length h
  pub could : CanFollow rule s (take place h) outcome
  pub vouched : IsVouched h outcome

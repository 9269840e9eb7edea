-- What one entry of a history says, of any kind: which message was accepted, what it makes and removes, what is committed, what
-- ends. Own rules. What orders and their answers say stands in `Orders`.
use Rattle.std.specs.Prelude.{◌==◌, ◌&&◌, ◌∷◌, [], if◌then◌else◌, Bool, List, None, Option, Some, false, true, ℕ}
use Rattle.std.specs.Option.{option_map_or, option_or}
use Rattle.page_origin.specs.declared.origin.Origin.{Origin}
use Rattle.history_entry.specs.declared.body.Body.{Body}
use Rattle.history_entry.specs.declared.body.Body.TheVariants.{AddFrame, DidCommit, Fetch, Navigate, OpenPage, RemoveFrame}
use Rattle.history_entry.specs.declared.body.Message.{Message}
use Rattle.history_entry.specs.declared.entry.Entry.{Entry}
use Rattle.history_entry.specs.declared.entry.Entry.TheVariants.{Commit, Crash, Exit, Local, NavEnd, Opened, Order, Said}
use Rattle.history_entry.specs.declared.reply.Reply.{Reply}
use Rattle.history_entry.specs.declared.reply.Reply.TheVariants.{Answer, Deny, Drop, Kill, Ok as Okay}

-- the last thing that f gives
abbrev pub last_match : {A : Type 0} → (Entry → Option A) → List Entry → Option A
last_match f [] = None
last_match f (e ∷ h) = option_or (last_match f h) (f e)

-- a start page is opened
abbrev pub is_opened : Entry → Bool
is_opened (Opened k) = true
is_opened _ = false

-- start page k is opened
abbrev pub opens : ℕ → Entry → Bool
opens k (Opened j) = j == k
opens k _ = false

-- the reply is ok
abbrev pub is_okay : Reply → Bool
is_okay Okay = true
is_okay (Answer text) = false
is_okay (Deny rule) = false
is_okay (Drop rule) = false
is_okay (Kill rule) = false

-- the reply is a kill
abbrev pub kills : Reply → Bool
kills Okay = false
kills (Answer text) = false
kills (Deny rule) = false
kills (Drop rule) = false
kills (Kill rule) = true

-- the message of a Said entry that was answered ok
abbrev pub accepted : Entry → Option Message
accepted (Said p d k message reply) = if is_okay reply then Some message else None
accepted _ = None

-- a message that makes a frame
abbrev pub body_makes_frame : Body → Bool
body_makes_frame (AddFrame src sandbox) = true
body_makes_frame (OpenPage url) = true
body_makes_frame _ = false

-- a message that begins a navigation
abbrev pub body_makes_navigation : Body → Bool
body_makes_navigation (Navigate frame url initiator) = true
body_makes_navigation body = body_makes_frame body

-- a message that begins a request
abbrev pub body_makes_request : Body → Bool
body_makes_request (Fetch url mode initiator) = true
body_makes_request _ = false

-- a message that removes frame f
abbrev pub body_removes : ℕ → Body → Bool
body_removes f (RemoveFrame frame) = frame == f
body_removes f _ = false

-- an accepted one that makes a frame
abbrev pub makes_frame : Entry → Bool
makes_frame e = option_map_or (λ m. body_makes_frame m.body) (accepted e) false

-- an accepted one that begins a navigation
abbrev pub makes_navigation : Entry → Bool
makes_navigation e = option_map_or (λ m. body_makes_navigation m.body) (accepted e) false

-- an accepted one that begins a request
abbrev pub makes_request : Entry → Bool
makes_request e = option_map_or (λ m. body_makes_request m.body) (accepted e) false

-- an accepted removal of frame f
abbrev pub removes : ℕ → Entry → Bool
removes f e = option_map_or (λ m. body_removes f m.body) (accepted e) false

-- a commit: its process and its navigation, which is also the number of the document
pub record CommitData : Type 0 where
  pub process : ℕ
  pub document : ℕ

-- the commit that a message of process p tells
abbrev pub body_commit : ℕ → Body → Option CommitData
body_commit p (DidCommit nav url origin) = Some (record { process = p; document = nav })
body_commit p _ = None

-- the accepted commit of an entry, by Said or by Commit
abbrev pub commit_in : Entry → Option CommitData
commit_in (Said p d k message reply) = if is_okay reply then body_commit p message.body else None
commit_in (Commit p n origin url reply) = if is_okay reply then Some (record { process = p; document = n }) else None
commit_in _ = None

-- an accepted commit of navigation n
abbrev pub commits : ℕ → Entry → Bool
commits n e = option_map_or (λ c. c.document == n) (commit_in e) false

-- an accepted commit of document n in process p
abbrev pub hosts : ℕ → ℕ → Entry → Bool
hosts p n e = option_map_or (λ c. (c.process == p) && (c.document == n)) (commit_in e) false

-- what an accepted commit says
pub record CommitClaim : Type 0 where
  pub process : ℕ
  pub navigation : ℕ
  pub origin : Origin
  pub url : List ℕ

-- what a message of process p claims
abbrev pub body_claim : ℕ → Body → Option CommitClaim
body_claim p (DidCommit nav url origin) = Some (record { process = p; navigation = nav; origin = origin; url = url })
body_claim p _ = None

-- what the accepted commit of an entry claims, by Said or by Commit
abbrev pub claim_in : Entry → Option CommitClaim
claim_in (Said p d k message reply) = if is_okay reply then body_claim p message.body else None
claim_in (Commit p n origin url reply) =
    if is_okay reply then Some (record { process = p; navigation = n; origin = origin; url = url }) else None
claim_in _ = None

-- the navigation that is ordered to process p
abbrev pub ordered_to : ℕ → Entry → Option ℕ
ordered_to p (Order n q site origin url) = if q == p then Some n else None
ordered_to p _ = None

-- navigation n ends without a commit
abbrev pub ends_navigation : ℕ → Entry → Bool
ends_navigation n (NavEnd m rule) = m == n
ends_navigation n _ = false

-- an entry that makes process p Dead: a kill, a crash or an exit
abbrev pub ends_process : ℕ → Entry → Bool
ends_process p (Said q d k message reply) = (q == p) && kills reply
ends_process p (Commit q n origin url reply) = (q == p) && kills reply
ends_process p (Crash q) = q == p
ends_process p (Exit q) = q == p
ends_process p _ = false

-- an action that document d has done
abbrev pub is_done_by : ℕ → Entry → Bool
is_done_by d (Said p document k message reply) = document == d
is_done_by d (Local p document k what) = document == d
is_done_by d _ = false

-- What a judgement asks of the services, and what they keep after it.
use Rattle.std.specs.Option.{option_to_list}
use Rattle.std.specs.Prelude.{◌≡◌, ◌<◌, ◌-◌, ◌^◌, [], if◌then◌else◌, Bool, Err, List, Ok, Result, false, length, true, ℕ}
use Rattle.page_origin.specs.declared.origin.Origin.TheVariants.{Tuple}
use Rattle.page_origin.specs.declared.origin.TupleOrigin.{TupleOrigin}
use Rattle.history_entry.specs.declared.body.Body.{Body}
use Rattle.history_entry.specs.declared.body.Body.TheVariants.{Ask, DidCommit, Post, RemoveFrame}
use Rattle.history_entry.specs.declared.entry.Entry.{Entry}
use Rattle.history_entry.specs.declared.reply.Reply.{Reply}
use Rattle.history_rules.specs.Services.{accepted_requests, body_asked, is_answer}
use Rattle.service_rule.specs.declared.service.Asked.{Asked}

-- what a service keeps: of a name and a tuple origin the requests that it accepted
abbrev pub Kept : Type 0
Kept = List ℕ → TupleOrigin → List Asked

-- of a message that asks a service in the name of a tuple origin: what the services keep of that origin is what the history accepted of
-- it, service by service
abbrev pub KeepAccepted : Kept → List Entry → Body → Type 0
KeepAccepted kept h (Ask service (Tuple o) request) = (name : List ℕ) → kept name o ≡ accepted_requests h name o
KeepAccepted kept h _ = Unit {0}

-- of such a message: the service may keep a request more
abbrev pub HaveRoom : Kept → Body → Type 0
HaveRoom kept (Ask service (Tuple o) request) = length (kept service o) < 2 ^ 32 - 1
HaveRoom kept _ = Unit {0}

-- the message is judged without memory
abbrev pub takes_no_memory : Body → Bool
takes_no_memory (RemoveFrame frame) = true
takes_no_memory (Post frame target source text) = true
takes_no_memory (DidCommit nav url origin) = true
takes_no_memory _ = false

-- the reply is a service's answer
abbrev pub is_answered : {E : Type 0} → Result Reply E → Bool
is_answered (Ok reply) = is_answer reply
is_answered (Err e) = false

-- what a message of document d adds to what the service called `name` keeps of a tuple origin: its request where it was answered
abbrev pub gained_by : {E : Type 0} → Result Reply E → ℕ → Body → List ℕ → TupleOrigin → List Asked
gained_by result d body name tuple = if is_answered result then option_to_list (body_asked name tuple d body) else []

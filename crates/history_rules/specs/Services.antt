-- The requests that a service accepted of a tuple origin. Own rules, after what Chromium keeps for each origin by itself.
use Rattle.std.specs.Prelude.{◌&&◌, if◌then◌else◌, Bool, List, None, Option, Some, bytes_eq, false, filter_map, true, ℕ}
use Rattle.page_origin.specs.Origins.{equal_tuples}
use Rattle.page_origin.specs.declared.origin.Origin.{Origin}
use Rattle.page_origin.specs.declared.origin.Origin.TheVariants.{Opaque, Tuple}
use Rattle.page_origin.specs.declared.origin.TupleOrigin.{TupleOrigin}
use Rattle.history_entry.specs.declared.body.Body.{Body}
use Rattle.history_entry.specs.declared.body.Body.TheVariants.{Ask}
use Rattle.history_entry.specs.declared.entry.Entry.{Entry}
use Rattle.history_entry.specs.declared.entry.Entry.TheVariants.{Said}
use Rattle.history_entry.specs.declared.reply.Reply.{Reply}
use Rattle.history_entry.specs.declared.reply.Reply.TheVariants.{Answer, Deny, Drop, Kill, Ok as Okay}
use Rattle.service_rule.specs.declared.service.Asked.{Asked}

-- the origin is this tuple
abbrev pub is_origin : TupleOrigin → Origin → Bool
is_origin tuple (Tuple o) = equal_tuples tuple o
is_origin tuple (Opaque o) = false

-- the request of a message to the service of this name by this origin
abbrev pub body_asked : List ℕ → TupleOrigin → ℕ → Body → Option Asked
body_asked name tuple d (Ask service origin request) =
    if bytes_eq service name && is_origin tuple origin then Some (record { document = d; request = request }) else None
body_asked name tuple d _ = None

-- the reply is an answer
abbrev pub is_answer : Reply → Bool
is_answer Okay = false
is_answer (Answer text) = true
is_answer (Deny rule) = false
is_answer (Drop rule) = false
is_answer (Kill rule) = false

-- such a request that was answered
abbrev pub asked_in : List ℕ → TupleOrigin → Entry → Option Asked
asked_in name tuple (Said p d k message reply) = if is_answer reply then body_asked name tuple message.document message.body else None
asked_in name tuple _ = None

-- the requests of a tuple origin that the service of this name answered, in order
unfoldable pub accepted_requests : List Entry → List ℕ → TupleOrigin → List Asked
accepted_requests h name tuple = filter_map (asked_in name tuple) h

-- From the actions of a document to its messages: what an action comes to in the sight of its document. Own format. A forged message
-- may say whatever a compromised renderer could.
use Rattle.std.specs.Prelude.{None, Option, Some, option_and_then, slice_get, unwrap_or, ℕ}
use Rattle.std.specs.Option.{option_map_or}
use Rattle.page_origin.specs.declared.origin.Origin.{Origin}
use Rattle.page_origin.specs.declared.origin.Origin.TheVariants.{Tuple}
use Rattle.page_origin.specs.declared.origin.TupleOrigin.{TupleOrigin}
use Rattle.history_entry.specs.declared.body.Body.{Body}
use Rattle.history_entry.specs.declared.body.Body.TheVariants.{AddFrame, Ask, DidCommit, Fetch, Navigate, OpenPage, Post, RemoveFrame}
use Rattle.script_model.specs.ScriptData.{ScriptData}
use Rattle.script_model.specs.declared.action.Action.{Action}
use Rattle.script_model.specs.declared.action.Action.TheVariants.{Ask as DoAsk, Crash as DoCrash, Fetch as DoFetch, Frame as DoFrame, Navigate as DoNavigate, Page as DoPage, Post as DoPost, Raw as DoRaw, Recv as DoRecv, Remove as DoRemove, Wait as DoWait}
use Rattle.script_model.specs.declared.action.FrameRef.{FrameRef}
use Rattle.script_model.specs.declared.action.FrameRef.TheVariants.{Child, Opener, Own, Parent, Top}
use Rattle.script_model.specs.declared.action.RawBody.{RawBody}
use Rattle.script_model.specs.declared.action.RawBody.TheVariants.{Ask as RawAsk, Commit as RawCommit, Fetch as RawFetch, Frame as RawFrame, Navigate as RawNavigate, Page as RawPage, Post as RawPost, Remove as RawRemove}
use Rattle.history_rules.specs.declared.act.Act.{Act}
use Rattle.history_rules.specs.declared.act.Act.TheVariants.{Crash as Crashes, Done, Recv as Receives, Message as Sends, Skip, Wait as Waits}
use Rattle.history_rules.specs.declared.sight.Sight.{Sight}

-- the frame that a name stands for
abbrev pub named_frame : Sight → FrameRef → Option ℕ
named_frame sight Own = Some sight.frame
named_frame sight Parent = sight.parent
named_frame sight Top = Some sight.top
named_frame sight Opener = sight.opener
named_frame sight (Child n) = slice_get sight.added n

-- a message of the sight's document
abbrev pub message_act : Sight → Body → Act
message_act sight body = Sends (record { document = sight.document; body = body })

-- the message about a frame, or Skip where the name stands for none
abbrev pub frame_act : Sight → (ℕ → Body) → Option ℕ → Act
frame_act sight body None = Skip
frame_act sight body (Some f) = message_act sight (body f)

-- a claimed origin, or else the running document's own
abbrev pub claim : Origin → Option TupleOrigin → Origin
claim own None = own
claim own (Some tuple) = Tuple tuple

-- the message that a forged one stands for
abbrev pub raw_body : Origin → RawBody → Body
raw_body own (RawNavigate frame url initiator) = Navigate frame url (claim own initiator)
raw_body own (RawFrame src sandbox) = AddFrame src sandbox
raw_body own (RawRemove frame) = RemoveFrame frame
raw_body own (RawPage url) = OpenPage url
raw_body own (RawFetch url mode initiator) = Fetch url mode (claim own initiator)
raw_body own (RawPost frame target source text) = Post frame target (claim own source) text
raw_body own (RawAsk service origin request) = Ask service (claim own origin) request
raw_body own (RawCommit nav url origin) = DidCommit nav url (Tuple origin)

-- what an action comes to; a raw message names any document, or else the running one
abbrev pub act_of_action : Sight → Action → Act
act_of_action sight (DoFrame src sandbox) = message_act sight (AddFrame src sandbox)
act_of_action sight (DoRemove child) = frame_act sight RemoveFrame (named_frame sight (Child child))
act_of_action sight (DoNavigate frame url) = frame_act sight (λ f. Navigate f url sight.origin) (named_frame sight frame)
act_of_action sight (DoPage url) = message_act sight (OpenPage url)
act_of_action sight (DoFetch url mode) = message_act sight (Fetch url mode sight.origin)
act_of_action sight (DoPost frame target text) = frame_act sight (λ f. Post f target sight.origin text) (named_frame sight frame)
act_of_action sight (DoAsk service request) = message_act sight (Ask service sight.origin request)
act_of_action sight DoWait = Waits
act_of_action sight DoRecv = Receives
act_of_action sight DoCrash = Crashes
act_of_action sight (DoRaw raw) = Sends (record { document = unwrap_or raw.document sight.document; body = raw_body sight.origin raw.body })

-- action k of the sight's resource, and Done where there is none
abbrev pub action_in : ScriptData → Sight → ℕ → Option Action
action_in s sight k = option_and_then (λ r. slice_get r.actions k) (option_and_then (slice_get s.resources) sight.resource)

-- what action k comes to, and Done where there is none
abbrev pub act_in : ScriptData → Sight → ℕ → Act
act_in s sight k = option_map_or (act_of_action sight) (action_in s sight k) Done

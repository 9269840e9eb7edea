-- The lines of a history's text: one for each entry. Own format.
use Rattle.std.specs.Prelude.{◌++◌, ◌∷◌, [], Bool, List, codes, decimal, false, true, ℕ}
use Rattle.hex.specs.Hex.{encode_lower}
use Rattle.page_origin.specs.Origins.{site_text, tuple_text}
use Rattle.page_origin.specs.declared.origin.Origin.{Origin}
use Rattle.page_origin.specs.declared.origin.Origin.TheVariants.{Opaque, Tuple}
use Rattle.history_entry.specs.RuleText.{rule_text}
use Rattle.history_entry.specs.declared.body.Body.{Body}
use Rattle.history_entry.specs.declared.body.Body.TheVariants.{AddFrame, Ask, DidCommit, Fetch, Navigate, OpenPage, Post, RemoveFrame}
use Rattle.history_entry.specs.declared.body.Message.{Message}
use Rattle.history_entry.specs.declared.body.Mode.{Mode}
use Rattle.history_entry.specs.declared.body.Mode.TheVariants.{Cors as InCors, NoCors}
use Rattle.history_entry.specs.declared.body.Src.{Src}
use Rattle.history_entry.specs.declared.body.Src.TheVariants.{Doc as FromDoc, Url as FromUrl}
use Rattle.history_entry.specs.declared.body.Target.{Target}
use Rattle.history_entry.specs.declared.body.Target.TheVariants.{Any, Of, Own as OwnOrigin}
use Rattle.history_entry.specs.declared.entry.EndHow.{EndHow}
use Rattle.history_entry.specs.declared.entry.EndHow.TheVariants.{Blocked as WasBlocked, Failed as WasCut, Whole}
use Rattle.history_entry.specs.declared.entry.Entry.{Entry}
use Rattle.history_entry.specs.declared.entry.Entry.TheVariants.{Commit, Crash, End, Exit, Head, Hop, Local, NavEnd, Opened, Order, Piece, Said, Warm}
use Rattle.history_entry.specs.declared.entry.HopOf.{HopOf}
use Rattle.history_entry.specs.declared.entry.HopOf.TheVariants.{Nav, Req}
use Rattle.history_entry.specs.declared.entry.LocalWhat.{LocalWhat}
use Rattle.history_entry.specs.declared.entry.LocalWhat.TheVariants.{Skipped, Took, Waited}
use Rattle.history_entry.specs.declared.reply.Reply.{Reply}
use Rattle.history_entry.specs.declared.reply.Reply.TheVariants.{Answer, Deny, Drop, Kill, Ok as Okay}

-- an origin: `scheme://host:port` without a default port, or `opaque:N:SITE`
unfoldable pub origin_line : Origin → List ℕ
origin_line (Tuple o) = tuple_text o
origin_line (Opaque o) = codes "opaque:" ++ decimal o.document ++ codes ":" ++ site_text o.precursor

-- lower-case hexadecimal, and a dash for no bytes
unfoldable pub hex_text : List ℕ → List ℕ
hex_text [] = codes "-"
hex_text (b ∷ bytes) = encode_lower (b ∷ bytes)

-- a field after a space
abbrev pub field : List ℕ → List ℕ
field text = 32 ∷ text

-- a field with a decimal number
abbrev pub number : ℕ → List ℕ
number n = field (decimal n)

-- a mode
abbrev pub mode_text : Mode → List ℕ
mode_text InCors = codes "cors"
mode_text NoCors = codes "no-cors"

-- whether a frame is sandboxed
abbrev pub sandbox_text : Bool → List ℕ
sandbox_text true = codes "sandboxed"
sandbox_text false = codes "plain"

-- a frame's URL, or its resource's number
unfoldable pub src_text : Src → List ℕ
src_text (FromUrl text) = codes "url" ++ field (hex_text text)
src_text (FromDoc index) = codes "doc" ++ number index

-- to whom a post is given
unfoldable pub target_text : Target → List ℕ
target_text Any = codes "*"
target_text OwnOrigin = codes "/"
target_text (Of origin) = origin_line origin

-- a message: its first word, then its fields
unfoldable pub body_text : Body → List ℕ
body_text (Navigate frame url initiator) = codes "navigate" ++ number frame ++ field (origin_line initiator) ++ field (hex_text url)
body_text (AddFrame src sandbox) = codes "frame" ++ field (sandbox_text sandbox) ++ field (src_text src)
body_text (RemoveFrame frame) = codes "remove" ++ number frame
body_text (OpenPage url) = codes "page" ++ field (hex_text url)
body_text (Fetch url mode initiator) = codes "fetch" ++ field (mode_text mode) ++ field (origin_line initiator) ++ field (hex_text url)
body_text (Post frame target source text) =
    codes "post" ++ number frame ++ field (target_text target) ++ field (origin_line source) ++ field (hex_text text)
body_text (Ask service origin request) = codes "ask" ++ field (hex_text service) ++ field (origin_line origin) ++ field (hex_text request)
body_text (DidCommit nav url origin) = codes "commit" ++ number nav ++ field (origin_line origin) ++ field (hex_text url)

-- a message by itself: the number of its document, and its body
unfoldable pub message_text : Message → List ℕ
message_text message = decimal message.document ++ field (body_text message.body)

-- a reply
unfoldable pub reply_text : Reply → List ℕ
reply_text Okay = codes "ok"
reply_text (Answer text) = codes "answer" ++ field (hex_text text)
reply_text (Deny rule) = codes "deny" ++ field (rule_text rule)
reply_text (Drop rule) = codes "drop" ++ field (rule_text rule)
reply_text (Kill rule) = codes "kill" ++ field (rule_text rule)

-- what a document did by itself
unfoldable pub what_text : LocalWhat → List ℕ
what_text Waited = codes "waited"
what_text Skipped = codes "skipped"
what_text (Took source text) = codes "took" ++ field (origin_line source) ++ field (hex_text text)

-- how a request ended
unfoldable pub how_text : EndHow → List ℕ
how_text Whole = codes "whole"
how_text (WasBlocked rule) = codes "blocked" ++ field (rule_text rule)
how_text (WasCut rule) = codes "failed" ++ field (rule_text rule)

-- of what a redirect is
unfoldable pub hop_text : HopOf → List ℕ
hop_text (Nav n) = codes "nav" ++ number n
hop_text (Req r) = codes "req" ++ number r

-- what a line says, without its line feed
unfoldable pub entry_text : Entry → List ℕ
entry_text (Opened k) = codes "open" ++ number k
entry_text (Warm p) = codes "warm" ++ number p
entry_text (Hop of url) = codes "hop" ++ field (hop_text of) ++ field url
entry_text (Order n p site origin url) =
    codes "order" ++ number n ++ number p ++ field (site_text site) ++ field (origin_line origin) ++ field url
entry_text (NavEnd n rule) = codes "navend" ++ number n ++ field (rule_text rule)
entry_text (Said p d k message reply) = codes "said" ++ number p ++ number d ++ number k ++ number message.document
    ++ field (body_text message.body) ++ codes " => " ++ reply_text reply
entry_text (Crash p) = codes "crash" ++ number p
entry_text (Commit p n origin url reply) = codes "commit" ++ number p ++ number n ++ field (origin_line origin) ++ field (hex_text url)
    ++ codes " => " ++ reply_text reply
entry_text (Local p d k what) = codes "local" ++ number p ++ number d ++ number k ++ field (what_text what)
entry_text (Head r rule) = codes "head" ++ number r ++ field (rule_text rule)
entry_text (Piece r i bytes) = codes "piece" ++ number r ++ number i ++ field (hex_text bytes)
entry_text (End r how) = codes "end" ++ number r ++ field (how_text how)
entry_text (Exit p) = codes "exit" ++ number p

-- one line, with its line feed
unfoldable pub line_of : Entry → List ℕ
line_of e = entry_text e ++ 10 ∷ []

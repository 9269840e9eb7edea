-- What the types of entries, messages and replies keep: numbers of 32 bits, ports of 16, hosts and URLs of their form, texts of UTF-8, pieces of bytes.
use Rattle.std.specs.Prelude.{◌≡◌, ℕ, ◌<◌, ◌^◌, true, length, IfSome, IsUtf8, ⊤}
use Rattle.hex.specs.Hex.{IsBytes}
use Rattle.page_origin.specs.HostSpelling.{is_host}
use Rattle.page_origin.specs.UrlText.{is_url_spelling}
use Rattle.page_origin.specs.declared.site.Site.{Site}
use Rattle.page_origin.specs.declared.origin.Origin.{Origin}
use Rattle.page_origin.specs.declared.origin.Origin.TheVariants.{Opaque, Tuple}
use Rattle.history_entry.specs.declared.body.Body.{Body}
use Rattle.history_entry.specs.declared.body.Body.TheVariants.{AddFrame, Ask, DidCommit, Fetch, Navigate, OpenPage, Post, RemoveFrame}
use Rattle.history_entry.specs.declared.body.Message.{Message}
use Rattle.history_entry.specs.declared.body.Src.{Src}
use Rattle.history_entry.specs.declared.body.Src.TheVariants.{Doc, Url}
use Rattle.history_entry.specs.declared.body.Target.{Target}
use Rattle.history_entry.specs.declared.body.Target.TheVariants.{Any, Of, Own}
use Rattle.history_entry.specs.declared.entry.Entry.{Entry}
use Rattle.history_entry.specs.declared.entry.Entry.TheVariants.{Commit, Crash, End, Exit, Head, Hop, Local, NavEnd, Opened, Order, Piece, Said, Warm}
use Rattle.history_entry.specs.declared.entry.HopOf.{HopOf}
use Rattle.history_entry.specs.declared.entry.HopOf.TheVariants.{Nav, Req}
use Rattle.history_entry.specs.declared.entry.LocalWhat.{LocalWhat}
use Rattle.history_entry.specs.declared.entry.LocalWhat.TheVariants.{Skipped, Took, Waited}
use Rattle.history_entry.specs.declared.reply.Reply.{Reply}
use Rattle.history_entry.specs.declared.reply.Reply.TheVariants.{Answer, Deny, Drop, Kill, Ok as Okay}

-- a number of 32 bits
abbrev pub IsNumber : ℕ → Type 0
IsNumber n = n < 2 ^ 32

-- a port of 16 bits
abbrev pub IsPort : ℕ → Type 0
IsPort port = port < 2 ^ 16

-- a site: its host is spelled as a host
abbrev pub IsSite : Site → Type 0
IsSite site = (is_host site.host ≡ true) × IfSome site.only IsPort

-- an origin
abbrev pub IsOrigin : Origin → Type 0
IsOrigin (Tuple o) = (is_host o.host ≡ true) × IsPort o.port
IsOrigin (Opaque o) = IsNumber o.document × IsSite o.precursor

-- the source of a frame
abbrev pub IsSource : Src → Type 0
IsSource (Url text) = IsUtf8 text
IsSource (Doc index) = IsNumber index

-- to whom a post is given
abbrev pub IsTarget : Target → Type 0
IsTarget Any = ⊤
IsTarget Own = ⊤
IsTarget (Of origin) = IsOrigin origin

-- the body of a message
abbrev pub IsBody : Body → Type 0
IsBody (Navigate frame url initiator) = IsNumber frame × IsUtf8 url × IsOrigin initiator
IsBody (AddFrame src sandbox) = IsSource src
IsBody (RemoveFrame frame) = IsNumber frame
IsBody (OpenPage url) = IsUtf8 url
IsBody (Fetch url mode initiator) = IsUtf8 url × IsOrigin initiator
IsBody (Post frame target source text) = IsNumber frame × IsTarget target × IsOrigin source × IsUtf8 text
IsBody (Ask service origin request) = IsUtf8 service × IsOrigin origin × IsUtf8 request
IsBody (DidCommit nav url origin) = IsNumber nav × IsUtf8 url × IsOrigin origin

-- a message
abbrev pub IsMessage : Message → Type 0
IsMessage message = IsNumber message.document × IsBody message.body

-- a reply
abbrev pub IsReply : Reply → Type 0
IsReply Okay = ⊤
IsReply (Answer text) = IsUtf8 text
IsReply (Deny rule) = ⊤
IsReply (Drop rule) = ⊤
IsReply (Kill rule) = ⊤

-- what a document did by itself
abbrev pub IsWhat : LocalWhat → Type 0
IsWhat Waited = ⊤
IsWhat Skipped = ⊤
IsWhat (Took source text) = IsOrigin source × IsUtf8 text

-- of what a redirect is
abbrev pub IsHopOf : HopOf → Type 0
IsHopOf (Nav n) = IsNumber n
IsHopOf (Req r) = IsNumber r

-- an entry, as its type keeps it
abbrev pub IsEntry : Entry → Type 0
IsEntry (Opened k) = IsNumber k
IsEntry (Warm p) = IsNumber p
IsEntry (Hop of url) = IsHopOf of × (is_url_spelling url ≡ true)
IsEntry (Order n p site origin url) = IsNumber n × IsNumber p × IsSite site × IsOrigin origin × (is_url_spelling url ≡ true)
IsEntry (NavEnd n rule) = IsNumber n
IsEntry (Said p d k message reply) = IsNumber p × IsNumber d × IsNumber k × IsMessage message × IsReply reply
IsEntry (Crash p) = IsNumber p
IsEntry (Commit p n origin url reply) = IsNumber p × IsNumber n × IsOrigin origin × IsUtf8 url × IsReply reply
IsEntry (Local p d k what) = IsNumber p × IsNumber d × IsNumber k × IsWhat what
IsEntry (Head r rule) = IsNumber r
IsEntry (Piece r i bytes) = IsNumber r × IsNumber i × IsBytes bytes × (0 < length bytes)
IsEntry (End r how) = IsNumber r
IsEntry (Exit p) = IsNumber p

-- For the proof that reading inverts printing: how the bodies of messages and replies are read, field by field.
use Rattle.std.specs.Prelude.{ℕ, Bool, true, false, List, bytes_eq, codes, Option, Some, None, if◌then◌else◌}
use Rattle.page_origin.specs.declared.origin.Origin.{Origin}
use Rattle.decimal_text.specs.Numbers.{decimal_number}
use Rattle.history_entry.specs.declared.body.Body.{Body}
use Rattle.history_entry.specs.declared.body.Body.TheVariants.{AddFrame, Ask, DidCommit, Fetch, Navigate, OpenPage, Post, RemoveFrame}
use Rattle.history_entry.specs.declared.body.Message.{Message}
use Rattle.history_entry.specs.declared.body.Mode.{Mode}
use Rattle.history_entry.specs.declared.body.Mode.TheVariants.{Cors, NoCors}
use Rattle.history_entry.specs.declared.body.Src.{Src}
use Rattle.history_entry.specs.declared.body.Src.TheVariants.{Doc, Url}
use Rattle.history_entry.specs.declared.body.Target.{Target}
use Rattle.history_entry.specs.declared.body.Target.TheVariants.{Any, Of, Own}
use Rattle.history_entry.specs.declared.reply.Reply.{Reply}
use Rattle.history_entry.specs.declared.reply.Reply.TheVariants.{Answer, Deny, Drop, Kill, Ok as Okay}
use Rattle.history_entry.specs.declared.rule.Rule.{Rule}
use Rattle.call_answers.specs.Chains.{◌>>=◌}
use Rattle.entry_reading.specs.Fields.{before, field_by, next_field, onwards, origin_of, rule_of, text_of}

-- a number behind a space, and what is left. So with the other fields
abbrev pub number : List ℕ → Option (ℕ × List ℕ)
number text = field_by decimal_number text

-- an origin
abbrev pub origin : List ℕ → Option (Origin × List ℕ)
origin text = field_by origin_of text

-- a text of UTF-8 in hexadecimal
abbrev pub text_field : List ℕ → Option (List ℕ × List ℕ)
text_field text = field_by text_of text

-- the code of a rule
abbrev pub rule : List ℕ → Option (Rule × List ℕ)
rule text = field_by rule_of text

-- the mode of a request
abbrev pub mode_of : List ℕ → Option Mode
mode_of text = if bytes_eq text (codes "cors") then Some Cors
    else (if bytes_eq text (codes "no-cors") then Some NoCors else None)

-- whether a frame is sandboxed
abbrev pub sandbox_of : List ℕ → Option Bool
sandbox_of text = if bytes_eq text (codes "sandboxed") then Some true
    else (if bytes_eq text (codes "plain") then Some false else None)

-- to whom a post is given
abbrev pub target_of : List ℕ → Option Target
target_of text = if bytes_eq text (codes "*") then Some Any
    else (if bytes_eq text (codes "/") then Some Own else (origin_of text >>= λ origin. Some (Of origin)))

-- a frame's source behind its word, which tells whether it is a text or a number
unfoldable pub src_by : List ℕ → List ℕ → Option (Src × List ℕ)
src_by word text = if bytes_eq word (codes "url") then (text_field text >>= λ url. Some (Url url.0, url.1))
    else (if bytes_eq word (codes "doc") then (number text >>= λ index. Some (Doc index.0, index.1)) else None)

-- a frame's source
abbrev pub src : List ℕ → Option (Src × List ℕ)
src text = next_field text >>= λ word. src_by word.0 word.1

-- `navigate F ORIGIN HEX`, behind its word
unfoldable pub navigate : List ℕ → Option (Body × List ℕ)
navigate text = do
  frame ← number text
  initiator ← origin frame.1
  url ← text_field initiator.1
  Some (Navigate frame.0 url.0 initiator.0, url.1)

-- `frame plain SOURCE` or `frame sandboxed SOURCE`
unfoldable pub add_frame : List ℕ → Option (Body × List ℕ)
add_frame text = do
  sandbox ← field_by sandbox_of text
  source ← src sandbox.1
  Some (AddFrame source.0 sandbox.0, source.1)

-- `remove F`
unfoldable pub remove_frame : List ℕ → Option (Body × List ℕ)
remove_frame text = number text >>= λ frame. Some (RemoveFrame frame.0, frame.1)

-- `page HEX`
unfoldable pub open_page : List ℕ → Option (Body × List ℕ)
open_page text = text_field text >>= λ url. Some (OpenPage url.0, url.1)

-- `fetch cors ORIGIN HEX` or `fetch no-cors ORIGIN HEX`
unfoldable pub fetch : List ℕ → Option (Body × List ℕ)
fetch text = do
  mode ← field_by mode_of text
  initiator ← origin mode.1
  url ← text_field initiator.1
  Some (Fetch url.0 mode.0 initiator.0, url.1)

-- `post F TARGET ORIGIN HEX`
unfoldable pub post : List ℕ → Option (Body × List ℕ)
post text = do
  frame ← number text
  target ← field_by target_of frame.1
  source ← origin target.1
  sent ← text_field source.1
  Some (Post frame.0 target.0 source.0 sent.0, sent.1)

-- `ask HEX ORIGIN HEX`, the service first
unfoldable pub ask : List ℕ → Option (Body × List ℕ)
ask text = do
  service ← text_field text
  asker ← origin service.1
  request ← text_field asker.1
  Some (Ask service.0 asker.0 request.0, request.1)

-- `commit N ORIGIN HEX`
unfoldable pub did_commit : List ℕ → Option (Body × List ℕ)
did_commit text = do
  navigation ← number text
  committed ← origin navigation.1
  url ← text_field committed.1
  Some (DidCommit navigation.0 url.0 committed.0, url.1)

-- a body behind its word, which tells which one it is
unfoldable pub body_by : List ℕ → List ℕ → Option (Body × List ℕ)
body_by word text = if bytes_eq word (codes "navigate") then navigate text
    else (if bytes_eq word (codes "frame") then add_frame text
    else (if bytes_eq word (codes "remove") then remove_frame text
    else (if bytes_eq word (codes "page") then open_page text
    else (if bytes_eq word (codes "fetch") then fetch text
    else (if bytes_eq word (codes "post") then post text
    else (if bytes_eq word (codes "ask") then ask text
    else (if bytes_eq word (codes "commit") then did_commit text else None)))))))

-- a body
abbrev pub body : List ℕ → Option (Body × List ℕ)
body text = next_field text >>= λ word. body_by word.0 word.1

-- a message: the number of its document, which no space stands before, and its body
unfoldable pub message : List ℕ → Option (Message × List ℕ)
message text = do
  document ← decimal_number (before 32 text)
  said ← body (onwards 32 text)
  Some (record { document = document; body = said.0 }, said.1)

-- a reply behind its word, which tells which one it is
unfoldable pub reply_by : List ℕ → List ℕ → Option (Reply × List ℕ)
reply_by word text = if bytes_eq word (codes "ok") then Some (Okay, text)
    else (if bytes_eq word (codes "answer") then (text_field text >>= λ x. Some (Answer x.0, x.1))
    else (if bytes_eq word (codes "deny") then (rule text >>= λ x. Some (Deny x.0, x.1))
    else (if bytes_eq word (codes "drop") then (rule text >>= λ x. Some (Drop x.0, x.1))
    else (if bytes_eq word (codes "kill") then (rule text >>= λ x. Some (Kill x.0, x.1)) else None))))

-- a reply, which no space stands before
abbrev pub reply : List ℕ → Option (Reply × List ℕ)
reply text = reply_by (before 32 text) (onwards 32 text)

-- For the proof that reading inverts printing: how a line is read, field by field, by what it begins with.
use Rattle.std.specs.Prelude.{ℕ, List, [], bytes_eq, codes, Option, Some, None, if◌then◌else◌}
use Rattle.history_entry.specs.declared.entry.EndHow.{EndHow}
use Rattle.history_entry.specs.declared.entry.EndHow.TheVariants.{Blocked, Failed, Whole}
use Rattle.history_entry.specs.declared.entry.Entry.{Entry}
use Rattle.history_entry.specs.declared.entry.Entry.TheVariants.{Commit, Crash, End, Exit, Head, Hop, Local, NavEnd, Opened, Order, Piece, Said, Warm}
use Rattle.history_entry.specs.declared.entry.HopOf.{HopOf}
use Rattle.history_entry.specs.declared.entry.HopOf.TheVariants.{Nav, Req}
use Rattle.history_entry.specs.declared.entry.LocalWhat.{LocalWhat}
use Rattle.history_entry.specs.declared.entry.LocalWhat.TheVariants.{Skipped, Took, Waited}
use Rattle.call_answers.specs.Chains.{◌>>=◌}
use Rattle.entry_reading.specs.Fields.{before, field_by, next_field, onwards, past, past_arrow, piece_of, site_of, url_of, whole}
use Rattle.entry_reading.specs.Bodies.{message, number, origin, reply, rule, text_field}

-- of what a redirect is, behind its word
unfoldable pub hop_of_by : List ℕ → List ℕ → Option (HopOf × List ℕ)
hop_of_by word text = if bytes_eq word (codes "nav") then (number text >>= λ n. Some (Nav n.0, n.1))
    else (if bytes_eq word (codes "req") then (number text >>= λ r. Some (Req r.0, r.1)) else None)

-- of what a redirect is
abbrev pub hop_of : List ℕ → Option (HopOf × List ℕ)
hop_of text = next_field text >>= λ word. hop_of_by word.0 word.1

-- what a document did by itself, behind its word
unfoldable pub what_by : List ℕ → List ℕ → Option (LocalWhat × List ℕ)
what_by word text = if bytes_eq word (codes "waited") then Some (Waited, text)
    else (if bytes_eq word (codes "skipped") then Some (Skipped, text)
    else (if bytes_eq word (codes "took") then (do
      source ← origin text
      sent ← text_field source.1
      Some (Took source.0 sent.0, sent.1))
    else None))

-- what a document did by itself
abbrev pub what : List ℕ → Option (LocalWhat × List ℕ)
what text = next_field text >>= λ word. what_by word.0 word.1

-- how a request ended, behind its word
unfoldable pub how_by : List ℕ → List ℕ → Option (EndHow × List ℕ)
how_by word text = if bytes_eq word (codes "whole") then Some (Whole, text)
    else (if bytes_eq word (codes "blocked") then (rule text >>= λ x. Some (Blocked x.0, x.1))
    else (if bytes_eq word (codes "failed") then (rule text >>= λ x. Some (Failed x.0, x.1)) else None))

-- how a request ended
abbrev pub how : List ℕ → Option (EndHow × List ℕ)
how text = next_field text >>= λ word. how_by word.0 word.1

-- a URL behind a space, which is all that is left
unfoldable pub url : List ℕ → Option (List ℕ × List ℕ)
url text = do
  rest ← past 32 text
  last ← url_of rest
  Some (last, [])

-- `hop nav N URL` or `hop req R URL`, behind the word of the line. So with the other kinds
unfoldable pub hop : List ℕ → Option (Entry × List ℕ)
hop text = do
  of ← hop_of text
  last ← url of.1
  Some (Hop of.0 last.0, last.1)

-- `order N P SITE ORIGIN URL`
unfoldable pub order : List ℕ → Option (Entry × List ℕ)
order text = do
  navigation ← number text
  process ← number navigation.1
  site ← field_by site_of process.1
  given ← origin site.1
  last ← url given.1
  Some (Order navigation.0 process.0 site.0 given.0 last.0, last.1)

-- `navend N RULE`
unfoldable pub nav_end : List ℕ → Option (Entry × List ℕ)
nav_end text = do
  navigation ← number text
  why ← rule navigation.1
  Some (NavEnd navigation.0 why.0, why.1)

-- `said P D K M BODY => REPLY`
unfoldable pub said : List ℕ → Option (Entry × List ℕ)
said text = do
  process ← number text
  document ← number process.1
  action ← number document.1
  rest ← past 32 action.1
  sent ← message rest
  behind ← past_arrow sent.1
  answer ← reply behind
  Some (Said process.0 document.0 action.0 sent.0 answer.0, answer.1)

-- `commit P N ORIGIN HEX => REPLY`
unfoldable pub commit : List ℕ → Option (Entry × List ℕ)
commit text = do
  process ← number text
  navigation ← number process.1
  given ← origin navigation.1
  told ← text_field given.1
  behind ← past_arrow told.1
  answer ← reply behind
  Some (Commit process.0 navigation.0 given.0 told.0 answer.0, answer.1)

-- `local P D K` and what was done
unfoldable pub local : List ℕ → Option (Entry × List ℕ)
local text = do
  process ← number text
  document ← number process.1
  action ← number document.1
  done ← what action.1
  Some (Local process.0 document.0 action.0 done.0, done.1)

-- `head R RULE`
unfoldable pub head : List ℕ → Option (Entry × List ℕ)
head text = do
  request ← number text
  why ← rule request.1
  Some (Head request.0 why.0, why.1)

-- `piece R I HEX`
unfoldable pub piece : List ℕ → Option (Entry × List ℕ)
piece text = do
  request ← number text
  index ← number request.1
  bytes ← field_by piece_of index.1
  Some (Piece request.0 index.0 bytes.0, bytes.1)

-- `end R` and how it ended
unfoldable pub end : List ℕ → Option (Entry × List ℕ)
end text = do
  request ← number text
  ended ← how request.1
  Some (End request.0 ended.0, ended.1)

-- an entry behind its word, which tells which kind it is
unfoldable pub entry_by : List ℕ → List ℕ → Option (Entry × List ℕ)
entry_by word text = if bytes_eq word (codes "open") then (number text >>= λ page. Some (Opened page.0, page.1))
    else (if bytes_eq word (codes "warm") then (number text >>= λ process. Some (Warm process.0, process.1))
    else (if bytes_eq word (codes "hop") then hop text
    else (if bytes_eq word (codes "order") then order text
    else (if bytes_eq word (codes "navend") then nav_end text
    else (if bytes_eq word (codes "said") then said text
    else (if bytes_eq word (codes "crash") then (number text >>= λ process. Some (Crash process.0, process.1))
    else (if bytes_eq word (codes "commit") then commit text
    else (if bytes_eq word (codes "local") then local text
    else (if bytes_eq word (codes "head") then head text
    else (if bytes_eq word (codes "piece") then piece text
    else (if bytes_eq word (codes "end") then end text
    else (if bytes_eq word (codes "exit") then (number text >>= λ process. Some (Exit process.0, process.1))
    else None))))))))))))

-- the entry of a line, without its line feed
unfoldable pub entry_of : List ℕ → Option Entry
entry_of text = whole (entry_by (before 32 text) (onwards 32 text))

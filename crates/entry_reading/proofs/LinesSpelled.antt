-- What is read of a line spells it.
use Rattle.std.proofs.Common.{◌≡◌, ℕ, List, [], ◌∷◌, ◌++◌, Some, None, ap, ◌∙◌, append_assoc, append-nil}
use Rattle.std.specs.Prelude.{Option, codes}
use Rattle.history_entry.specs.declared.body.Message.{Message}
use Rattle.history_entry.specs.declared.reply.Reply.{Reply}
use Rattle.history_entry.specs.declared.entry.EndHow.{EndHow}
use Rattle.history_entry.specs.declared.entry.EndHow.TheVariants.{Blocked, Failed, Whole}
use Rattle.history_entry.specs.declared.entry.Entry.{Entry}
use Rattle.history_entry.specs.declared.entry.Entry.TheVariants.{Commit, Crash, End, Exit, Head, Hop, Local, NavEnd, Opened, Order, Piece, Said, Warm}
use Rattle.history_entry.specs.declared.entry.HopOf.{HopOf}
use Rattle.history_entry.specs.declared.entry.HopOf.TheVariants.{Nav, Req}
use Rattle.history_entry.specs.declared.entry.LocalWhat.{LocalWhat}
use Rattle.history_entry.specs.declared.entry.LocalWhat.TheVariants.{Skipped, Took, Waited}
use Rattle.call_answers.specs.Chains.{◌>>=◌}
use Rattle.entry_text.specs.Lines.{body_text, entry_text, field, hop_text, how_text, message_text, number as number_text, reply_text, what_text}
use Rattle.entry_reading.specs.Fields.{before, field_by, onwards, past, past_arrow, piece_of, site_of, url_of, whole}
use Rattle.entry_reading.specs.Bodies.{message, number, origin, reply, rule, text_field}
use Rattle.entry_reading.specs.Reading.{commit, end, entry_by, entry_of, head, hop, hop_of, hop_of_by, how, how_by, local, nav_end, order, piece, said, url, what, what_by}
use Rattle.entry_reading.proofs.FieldsSpelled.{Front, all_there, arrow_there, bind_some, by_word, joined, no_word, number_there, past_is, piece_there, text_there, url_is, word_first, worded}
use Rattle.entry_reading.proofs.OriginsSpelled.{origin_there, rule_there, site_there}
use Rattle.entry_reading.proofs.BodiesSpelled.{Spelled, at_front, last_step, message_there, reply_there}

-- ---- parts of lines

hop_nav : (text : List ℕ) (p : HopOf × List ℕ) → (number text >>= λ n. Some (Nav n.0, n.1)) ≡ Some p → Spelled hop_text (codes "nav" ++ text) p
unfolding hop_text
hop_nav text p is =
    let n = bind_some (number text) (λ n. Some (Nav n.0, n.1)) p is in
    last_step hop_text (codes "nav" ++ text) (Nav n.0.0, n.0.1) p n.2 (joined (word_first (codes "nav") text) (number_there text n.0 n.1))

hop_req : (text : List ℕ) (p : HopOf × List ℕ) → (number text >>= λ r. Some (Req r.0, r.1)) ≡ Some p → Spelled hop_text (codes "req" ++ text) p
unfolding hop_text
hop_req text p is =
    let r = bind_some (number text) (λ r. Some (Req r.0, r.1)) p is in
    last_step hop_text (codes "req" ++ text) (Req r.0.0, r.0.1) p r.2 (joined (word_first (codes "req") text) (number_there text r.0 r.1))

hop_of_by_there : (word text : List ℕ) (p : HopOf × List ℕ) → hop_of_by word text ≡ Some p → Spelled hop_text (word ++ text) p
unfolding hop_of_by
hop_of_by_there word text p =
    let P : List ℕ → Type 0 = λ w. Spelled hop_text (w ++ text) p in
    by_word P word (codes "nav") (number text >>= λ n. Some (Nav n.0, n.1)) _ p (hop_nav text p)
    (by_word P word (codes "req") (number text >>= λ r. Some (Req r.0, r.1)) None p (hop_req text p)
    (no_word (P word) p))

hop_of_there : (text : List ℕ) (p : HopOf × List ℕ) → hop_of text ≡ Some p → Front (field (hop_text p.0)) p.1 text
hop_of_there = worded hop_of_by hop_text hop_of_by_there

waited_there : (text : List ℕ) (p : LocalWhat × List ℕ) → Some (Waited, text) ≡ Some p → Spelled what_text (codes "waited" ++ text) p
unfolding what_text
waited_there text p is = last_step what_text (codes "waited" ++ text) (Waited, text) p is (word_first (codes "waited") text)

skipped_there : (text : List ℕ) (p : LocalWhat × List ℕ) → Some (Skipped, text) ≡ Some p → Spelled what_text (codes "skipped" ++ text) p
unfolding what_text
skipped_there text p is = last_step what_text (codes "skipped" ++ text) (Skipped, text) p is (word_first (codes "skipped") text)

-- a source and a text
abbrev took : List ℕ → Option (LocalWhat × List ℕ)
took text = do
  source ← origin text
  sent ← text_field source.1
  Some (Took source.0 sent.0, sent.1)

took_there : (text : List ℕ) (p : LocalWhat × List ℕ) → took text ≡ Some p → Spelled what_text (codes "took" ++ text) p
unfolding what_text
took_there text p is =
    let source = bind_some (origin text) _ p is in
    let sent = bind_some (text_field source.0.1) _ p source.2 in
    last_step what_text (codes "took" ++ text) (Took source.0.0 sent.0.0, sent.0.1) p sent.2
    (joined (joined (word_first (codes "took") text) (origin_there text source.0 source.1)) (text_there source.0.1 sent.0 sent.1))

what_by_there : (word text : List ℕ) (p : LocalWhat × List ℕ) → what_by word text ≡ Some p → Spelled what_text (word ++ text) p
unfolding what_by
what_by_there word text p =
    let P : List ℕ → Type 0 = λ w. Spelled what_text (w ++ text) p in
    by_word P word (codes "waited") (Some (Waited, text)) _ p (waited_there text p)
    (by_word P word (codes "skipped") (Some (Skipped, text)) _ p (skipped_there text p)
    (by_word P word (codes "took") (took text) None p (took_there text p)
    (no_word (P word) p)))

what_there : (text : List ℕ) (p : LocalWhat × List ℕ) → what text ≡ Some p → Front (field (what_text p.0)) p.1 text
what_there = worded what_by what_text what_by_there

whole_there : (text : List ℕ) (p : EndHow × List ℕ) → Some (Whole, text) ≡ Some p → Spelled how_text (codes "whole" ++ text) p
unfolding how_text
whole_there text p is = last_step how_text (codes "whole" ++ text) (Whole, text) p is (word_first (codes "whole") text)

blocked_there : (text : List ℕ) (p : EndHow × List ℕ) → (rule text >>= λ x. Some (Blocked x.0, x.1)) ≡ Some p → Spelled how_text (codes "blocked" ++ text) p
unfolding how_text
blocked_there text p is =
    let why = bind_some (rule text) (λ x. Some (Blocked x.0, x.1)) p is in
    last_step how_text (codes "blocked" ++ text) (Blocked why.0.0, why.0.1) p why.2 (joined (word_first (codes "blocked") text) (rule_there text why.0 why.1))

failed_there : (text : List ℕ) (p : EndHow × List ℕ) → (rule text >>= λ x. Some (Failed x.0, x.1)) ≡ Some p → Spelled how_text (codes "failed" ++ text) p
unfolding how_text
failed_there text p is =
    let why = bind_some (rule text) (λ x. Some (Failed x.0, x.1)) p is in
    last_step how_text (codes "failed" ++ text) (Failed why.0.0, why.0.1) p why.2 (joined (word_first (codes "failed") text) (rule_there text why.0 why.1))

how_by_there : (word text : List ℕ) (p : EndHow × List ℕ) → how_by word text ≡ Some p → Spelled how_text (word ++ text) p
unfolding how_by
how_by_there word text p =
    let P : List ℕ → Type 0 = λ w. Spelled how_text (w ++ text) p in
    by_word P word (codes "whole") (Some (Whole, text)) _ p (whole_there text p)
    (by_word P word (codes "blocked") (rule text >>= λ x. Some (Blocked x.0, x.1)) _ p (blocked_there text p)
    (by_word P word (codes "failed") (rule text >>= λ x. Some (Failed x.0, x.1)) None p (failed_there text p)
    (no_word (P word) p)))

how_there : (text : List ℕ) (p : EndHow × List ℕ) → how text ≡ Some p → Front (field (how_text p.0)) p.1 text
how_there = worded how_by how_text how_by_there

url_there : (text : List ℕ) (p : List ℕ × List ℕ) → url text ≡ Some p → Front (field p.0) p.1 text
unfolding url
url_there text p is =
    let space = bind_some (past 32 text) _ p is in
    let last = bind_some (url_of space.0) _ p space.2 in
    let all : field last.0 ++ [] ≡ text = ap (λ t. 32 ∷ t) (append-nil last.0 ∙ url_is space.0 last.0 last.1) ∙ past_is 32 text space.0 space.1 in
    last_step field text (last.0, []) p last.2 (record { whole = all })

-- ---- each kind of line

abbrev Line : List ℕ → List ℕ → Entry × List ℕ → Type 0
Line word text p = Spelled entry_text (word ++ text) p

open_there : (text : List ℕ) (p : Entry × List ℕ) → (number text >>= λ page. Some (Opened page.0, page.1)) ≡ Some p → Line (codes "open") text p
unfolding entry_text
open_there text p is =
    let n = bind_some (number text) (λ page. Some (Opened page.0, page.1)) p is in
    last_step entry_text (codes "open" ++ text) (Opened n.0.0, n.0.1) p n.2 (joined (word_first (codes "open") text) (number_there text n.0 n.1))

warm_there : (text : List ℕ) (p : Entry × List ℕ) → (number text >>= λ process. Some (Warm process.0, process.1)) ≡ Some p → Line (codes "warm") text p
unfolding entry_text
warm_there text p is =
    let n = bind_some (number text) (λ process. Some (Warm process.0, process.1)) p is in
    last_step entry_text (codes "warm" ++ text) (Warm n.0.0, n.0.1) p n.2 (joined (word_first (codes "warm") text) (number_there text n.0 n.1))

crash_there : (text : List ℕ) (p : Entry × List ℕ) → (number text >>= λ process. Some (Crash process.0, process.1)) ≡ Some p → Line (codes "crash") text p
unfolding entry_text
crash_there text p is =
    let n = bind_some (number text) (λ process. Some (Crash process.0, process.1)) p is in
    last_step entry_text (codes "crash" ++ text) (Crash n.0.0, n.0.1) p n.2 (joined (word_first (codes "crash") text) (number_there text n.0 n.1))

exit_there : (text : List ℕ) (p : Entry × List ℕ) → (number text >>= λ process. Some (Exit process.0, process.1)) ≡ Some p → Line (codes "exit") text p
unfolding entry_text
exit_there text p is =
    let n = bind_some (number text) (λ process. Some (Exit process.0, process.1)) p is in
    last_step entry_text (codes "exit" ++ text) (Exit n.0.0, n.0.1) p n.2 (joined (word_first (codes "exit") text) (number_there text n.0 n.1))

hop_there : (text : List ℕ) (p : Entry × List ℕ) → hop text ≡ Some p → Line (codes "hop") text p
unfolding hop entry_text
hop_there text p is =
    let of = bind_some (hop_of text) _ p is in
    let last = bind_some (url of.0.1) _ p of.2 in
    last_step entry_text (codes "hop" ++ text) (Hop of.0.0 last.0.0, last.0.1) p last.2
    (joined (joined (word_first (codes "hop") text) (hop_of_there text of.0 of.1)) (url_there of.0.1 last.0 last.1))

order_there : (text : List ℕ) (p : Entry × List ℕ) → order text ≡ Some p → Line (codes "order") text p
unfolding order entry_text
order_there text p is =
    let navigation = bind_some (number text) _ p is in
    let process = bind_some (number navigation.0.1) _ p navigation.2 in
    let site = bind_some (field_by site_of process.0.1) _ p process.2 in
    let given = bind_some (origin site.0.1) _ p site.2 in
    let last = bind_some (url given.0.1) _ p given.2 in
    last_step entry_text (codes "order" ++ text) (Order navigation.0.0 process.0.0 site.0.0 given.0.0 last.0.0, last.0.1) p last.2
    (joined (joined (joined (joined (joined (word_first (codes "order") text) (number_there text navigation.0 navigation.1))
    (number_there navigation.0.1 process.0 process.1)) (site_there process.0.1 site.0 site.1))
    (origin_there site.0.1 given.0 given.1)) (url_there given.0.1 last.0 last.1))

nav_end_there : (text : List ℕ) (p : Entry × List ℕ) → nav_end text ≡ Some p → Line (codes "navend") text p
unfolding nav_end entry_text
nav_end_there text p is =
    let navigation = bind_some (number text) _ p is in
    let why = bind_some (rule navigation.0.1) _ p navigation.2 in
    last_step entry_text (codes "navend" ++ text) (NavEnd navigation.0.0 why.0.0, why.0.1) p why.2
    (joined (joined (word_first (codes "navend") text) (number_there text navigation.0 navigation.1)) (rule_there navigation.0.1 why.0 why.1))

-- a message behind a space, in two pieces
sent_there : {a : List ℕ} (mid rest whole : List ℕ) (sent : Message) (left : List ℕ) → Front a mid whole → past 32 mid ≡ Some rest → Front (message_text sent) left rest → Front ((a ++ number_text sent.document) ++ field (body_text sent.body)) left whole
unfolding message_text
sent_there {a = a} mid rest whole sent left first space second =
    let behind : Front (number_text sent.document ++ field (body_text sent.body)) left mid =
    record { whole = ap (λ t. 32 ∷ t) second.whole ∙ past_is 32 mid rest space } in
    let all = joined first behind in
    record { whole = ap (λ t. t ++ left) (append_assoc a (number_text sent.document) (field (body_text sent.body))) ∙ all.whole }

said_there : (text : List ℕ) (p : Entry × List ℕ) → said text ≡ Some p → Line (codes "said") text p
unfolding said entry_text
said_there text p is =
    let process = bind_some (number text) _ p is in
    let document = bind_some (number process.0.1) _ p process.2 in
    let action = bind_some (number document.0.1) _ p document.2 in
    let space = bind_some (past 32 action.0.1) _ p action.2 in
    let sent = bind_some (message space.0) _ p space.2 in
    let behind = bind_some (past_arrow sent.0.1) _ p sent.2 in
    let answer = bind_some (reply behind.0) _ p behind.2 in
    let numbers = joined (joined (joined (word_first (codes "said") text) (number_there text process.0 process.1))
    (number_there process.0.1 document.0 document.1)) (number_there document.0.1 action.0 action.1) in
    last_step entry_text (codes "said" ++ text) (Said process.0.0 document.0.0 action.0.0 sent.0.0 answer.0.0, answer.0.1) p answer.2
    (joined {b = reply_text answer.0.0} {rest = answer.0.1} (joined (sent_there action.0.1 space.0 (codes "said" ++ text) sent.0.0 sent.0.1 numbers space.1 (message_there space.0 sent.0 sent.1))
    (arrow_there sent.0.1 behind.0 behind.1)) (reply_there behind.0 answer.0 answer.1))

commit_there : (text : List ℕ) (p : Entry × List ℕ) → commit text ≡ Some p → Line (codes "commit") text p
unfolding commit entry_text
commit_there text p is =
    let process = bind_some (number text) _ p is in
    let navigation = bind_some (number process.0.1) _ p process.2 in
    let given = bind_some (origin navigation.0.1) _ p navigation.2 in
    let told = bind_some (text_field given.0.1) _ p given.2 in
    let behind = bind_some (past_arrow told.0.1) _ p told.2 in
    let answer = bind_some (reply behind.0) _ p behind.2 in
    last_step entry_text (codes "commit" ++ text) (Commit process.0.0 navigation.0.0 given.0.0 told.0.0 answer.0.0, answer.0.1) p answer.2
    (joined (joined (joined (joined (joined (joined (word_first (codes "commit") text) (number_there text process.0 process.1))
    (number_there process.0.1 navigation.0 navigation.1)) (origin_there navigation.0.1 given.0 given.1))
    (text_there given.0.1 told.0 told.1)) (arrow_there told.0.1 behind.0 behind.1)) (reply_there behind.0 answer.0 answer.1))

local_there : (text : List ℕ) (p : Entry × List ℕ) → local text ≡ Some p → Line (codes "local") text p
unfolding local entry_text
local_there text p is =
    let process = bind_some (number text) _ p is in
    let document = bind_some (number process.0.1) _ p process.2 in
    let action = bind_some (number document.0.1) _ p document.2 in
    let done = bind_some (what action.0.1) _ p action.2 in
    last_step entry_text (codes "local" ++ text) (Local process.0.0 document.0.0 action.0.0 done.0.0, done.0.1) p done.2
    (joined (joined (joined (joined (word_first (codes "local") text) (number_there text process.0 process.1))
    (number_there process.0.1 document.0 document.1)) (number_there document.0.1 action.0 action.1)) (what_there action.0.1 done.0 done.1))

head_there : (text : List ℕ) (p : Entry × List ℕ) → head text ≡ Some p → Line (codes "head") text p
unfolding head entry_text
head_there text p is =
    let request = bind_some (number text) _ p is in
    let why = bind_some (rule request.0.1) _ p request.2 in
    last_step entry_text (codes "head" ++ text) (Head request.0.0 why.0.0, why.0.1) p why.2
    (joined (joined (word_first (codes "head") text) (number_there text request.0 request.1)) (rule_there request.0.1 why.0 why.1))

piece_line_there : (text : List ℕ) (p : Entry × List ℕ) → piece text ≡ Some p → Line (codes "piece") text p
unfolding piece entry_text
piece_line_there text p is =
    let request = bind_some (number text) _ p is in
    let index = bind_some (number request.0.1) _ p request.2 in
    let bytes = bind_some (field_by piece_of index.0.1) _ p index.2 in
    last_step entry_text (codes "piece" ++ text) (Piece request.0.0 index.0.0 bytes.0.0, bytes.0.1) p bytes.2
    (joined (joined (joined (word_first (codes "piece") text) (number_there text request.0 request.1))
    (number_there request.0.1 index.0 index.1)) (piece_there index.0.1 bytes.0 bytes.1))

end_there : (text : List ℕ) (p : Entry × List ℕ) → end text ≡ Some p → Line (codes "end") text p
unfolding end entry_text
end_there text p is =
    let request = bind_some (number text) _ p is in
    let ended = bind_some (how request.0.1) _ p request.2 in
    last_step entry_text (codes "end" ++ text) (End request.0.0 ended.0.0, ended.0.1) p ended.2
    (joined (joined (word_first (codes "end") text) (number_there text request.0 request.1)) (how_there request.0.1 ended.0 ended.1))

entry_by_there : (word text : List ℕ) (p : Entry × List ℕ) → entry_by word text ≡ Some p → Line word text p
unfolding entry_by
entry_by_there word text p =
    let P : List ℕ → Type 0 = λ w. Line w text p in
    by_word P word (codes "open") (number text >>= λ page. Some (Opened page.0, page.1)) _ p (open_there text p)
    (by_word P word (codes "warm") (number text >>= λ process. Some (Warm process.0, process.1)) _ p (warm_there text p)
    (by_word P word (codes "hop") (hop text) _ p (hop_there text p)
    (by_word P word (codes "order") (order text) _ p (order_there text p)
    (by_word P word (codes "navend") (nav_end text) _ p (nav_end_there text p)
    (by_word P word (codes "said") (said text) _ p (said_there text p)
    (by_word P word (codes "crash") (number text >>= λ process. Some (Crash process.0, process.1)) _ p (crash_there text p)
    (by_word P word (codes "commit") (commit text) _ p (commit_there text p)
    (by_word P word (codes "local") (local text) _ p (local_there text p)
    (by_word P word (codes "head") (head text) _ p (head_there text p)
    (by_word P word (codes "piece") (piece text) _ p (piece_line_there text p)
    (by_word P word (codes "end") (end text) _ p (end_there text p)
    (by_word P word (codes "exit") (number text >>= λ process. Some (Exit process.0, process.1)) None p (exit_there text p)
    (no_word (P word) p)))))))))))))

-- ---- all of a text

-- what is read of a line spells it
pub entry_is : (text : List ℕ) (e : Entry) → entry_of text ≡ Some e → entry_text e ≡ text
unfolding entry_of
entry_is text e is =
    all_there entry_text text (entry_by (before 32 text) (onwards 32 text)) e
    (λ p read. at_front entry_text text p (entry_by_there (before 32 text) (onwards 32 text) p read)) is

-- so with messages
pub message_is : (text : List ℕ) (m : Message) → whole (message text) ≡ Some m → message_text m ≡ text
message_is text m is = all_there message_text text (message text) m (message_there text) is

-- and replies
pub reply_is : (text : List ℕ) (r : Reply) → whole (reply text) ≡ Some r → reply_text r ≡ text
reply_is text r is = all_there reply_text text (reply text) r (reply_there text) is

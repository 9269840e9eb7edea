-- What is read of a body, a message or a reply spells it.
use Rattle.std.proofs.Common.{◌≡◌, ℕ, Bool, true, false, List, ◌++◌, Some, None, sym, ap, ◌∙◌, subst}
use Rattle.std.specs.Prelude.{codes, decimal}
use Rattle.std.proofs.lemmas.Option.{same_Some}
use Rattle.decimal_text.specs.Numbers.{decimal_number}
use Rattle.history_entry.specs.declared.body.Body.{Body}
use Rattle.history_entry.specs.declared.body.Body.TheVariants.{AddFrame, Ask, DidCommit, Fetch, Navigate, OpenPage, Post, RemoveFrame}
use Rattle.history_entry.specs.declared.body.Message.{Message}
use Rattle.history_entry.specs.declared.body.Mode.{Mode}
use Rattle.history_entry.specs.declared.body.Mode.TheVariants.{Cors, NoCors}
use Rattle.history_entry.specs.declared.body.Src.{Src}
use Rattle.history_entry.specs.declared.body.Src.TheVariants.{Doc, Url}
use Rattle.history_entry.specs.declared.body.Target.{Target}
use Rattle.history_entry.specs.declared.body.Target.TheVariants.{Any, Of, Own}
use Rattle.history_entry.specs.declared.reply.Reply.{Reply}
use Rattle.history_entry.specs.declared.reply.Reply.TheVariants.{Answer, Deny, Drop, Kill, Ok as Okay}
use Rattle.call_answers.specs.Chains.{◌>>=◌}
use Rattle.entry_text.specs.Lines.{body_text, field, message_text, mode_text, reply_text, sandbox_text, src_text, target_text}
use Rattle.entry_reading.specs.Fields.{before, field_by, onwards, origin_of}
use Rattle.entry_reading.specs.Bodies.{add_frame, ask, body, body_by, did_commit, fetch, message, mode_of, navigate, number, open_page, origin, post, remove_frame, reply, reply_by, rule, sandbox_of, src, src_by, target_of, text_field}
use Rattle.entry_reading.proofs.FieldsSpelled.{Front, around_whole, bind_some, by_word, decimal_is, joined, no_word, number_there, text_there, value_there, word_first, worded}
use Rattle.entry_reading.proofs.OriginsSpelled.{origin_is, origin_there, rule_there}

-- ---- words

mode_is : (text : List ℕ) (mode : Mode) → mode_of text ≡ Some mode → mode_text mode ≡ text
mode_is text mode =
    by_word (λ word. mode_text mode ≡ word) text (codes "cors") (Some Cors) _ mode (λ is. ap mode_text (sym (same_Some Cors mode is)))
    (by_word (λ word. mode_text mode ≡ word) text (codes "no-cors") (Some NoCors) None mode (λ is. ap mode_text (sym (same_Some NoCors mode is)))
    (no_word (mode_text mode ≡ text) mode))

sandbox_is : (text : List ℕ) (sandbox : Bool) → sandbox_of text ≡ Some sandbox → sandbox_text sandbox ≡ text
sandbox_is text sandbox =
    by_word (λ word. sandbox_text sandbox ≡ word) text (codes "sandboxed") (Some true) _ sandbox (λ is. ap sandbox_text (sym (same_Some true sandbox is)))
    (by_word (λ word. sandbox_text sandbox ≡ word) text (codes "plain") (Some false) None sandbox (λ is. ap sandbox_text (sym (same_Some false sandbox is)))
    (no_word (sandbox_text sandbox ≡ text) sandbox))

target_by_origin : (text : List ℕ) (target : Target) → (origin_of text >>= λ o. Some (Of o)) ≡ Some target → target_text target ≡ text
unfolding target_text
target_by_origin text target is =
    let found = bind_some (origin_of text) (λ o. Some (Of o)) target is in
    ap target_text (sym (same_Some (Of found.0) target found.2)) ∙ origin_is text found.0 found.1

target_is : (text : List ℕ) (target : Target) → target_of text ≡ Some target → target_text target ≡ text
unfolding target_text
target_is text target =
    by_word (λ word. target_text target ≡ word) text (codes "*") (Some Any) _ target (λ is. ap target_text (sym (same_Some Any target is)))
    (by_word (λ word. target_text target ≡ word) text (codes "/") (Some Own) _ target (λ is. ap target_text (sym (same_Some Own target is)))
    (target_by_origin text target))

mode_there : (text : List ℕ) (p : Mode × List ℕ) → field_by mode_of text ≡ Some p → Front (field (mode_text p.0)) p.1 text
mode_there = value_there mode_of mode_text mode_is

sandbox_there : (text : List ℕ) (p : Bool × List ℕ) → field_by sandbox_of text ≡ Some p → Front (field (sandbox_text p.0)) p.1 text
sandbox_there = value_there sandbox_of sandbox_text sandbox_is

target_there : (text : List ℕ) (p : Target × List ℕ) → field_by target_of text ≡ Some p → Front (field (target_text p.0)) p.1 text
target_there = value_there target_of target_text target_is

-- ---- bodies

-- what is spelled at the front of a text, for the value that was read and what is left
abbrev pub Spelled : {A : Type 0} → (A → List ℕ) → List ℕ → A × List ℕ → Type 0
Spelled spell text p = Front (spell p.0) p.1 text

-- the same for the pair that the last step gave
pub last_step : {A : Type 0} (spell : A → List ℕ) (text : List ℕ) (q p : A × List ℕ) → Some q ≡ Some p → Spelled spell text q → Spelled spell text p
last_step {A = A} spell text q p is there = subst (λ (r : A × List ℕ). Spelled spell text r) (same_Some q p is) there

src_url : (text : List ℕ) (p : Src × List ℕ) → (text_field text >>= λ url. Some (Url url.0, url.1)) ≡ Some p → Spelled src_text (codes "url" ++ text) p
unfolding src_text
src_url text p is =
    let url = bind_some (text_field text) (λ url. Some (Url url.0, url.1)) p is in
    last_step src_text (codes "url" ++ text) (Url url.0.0, url.0.1) p url.2 (joined (word_first (codes "url") text) (text_there text url.0 url.1))

src_doc : (text : List ℕ) (p : Src × List ℕ) → (number text >>= λ index. Some (Doc index.0, index.1)) ≡ Some p → Spelled src_text (codes "doc" ++ text) p
unfolding src_text
src_doc text p is =
    let index = bind_some (number text) (λ index. Some (Doc index.0, index.1)) p is in
    last_step src_text (codes "doc" ++ text) (Doc index.0.0, index.0.1) p index.2 (joined (word_first (codes "doc") text) (number_there text index.0 index.1))

src_by_there : (word text : List ℕ) (p : Src × List ℕ) → src_by word text ≡ Some p → Spelled src_text (word ++ text) p
unfolding src_by
src_by_there word text p =
    by_word (λ w. Spelled src_text (w ++ text) p) word (codes "url") _ _ p (src_url text p)
    (by_word (λ w. Spelled src_text (w ++ text) p) word (codes "doc") _ None p (src_doc text p)
    (no_word (Spelled src_text (word ++ text) p) p))

src_there : (text : List ℕ) (p : Src × List ℕ) → src text ≡ Some p → Front (field (src_text p.0)) p.1 text
src_there = worded src_by src_text src_by_there

navigate_there : (text : List ℕ) (p : Body × List ℕ) → navigate text ≡ Some p → Spelled body_text (codes "navigate" ++ text) p
unfolding navigate body_text
navigate_there text p is =
    let frame = bind_some (number text) _ p is in
    let initiator = bind_some (origin frame.0.1) _ p frame.2 in
    let url = bind_some (text_field initiator.0.1) _ p initiator.2 in
    last_step body_text (codes "navigate" ++ text) (Navigate frame.0.0 url.0.0 initiator.0.0, url.0.1) p url.2
    (joined (joined (joined (word_first (codes "navigate") text) (number_there text frame.0 frame.1))
    (origin_there frame.0.1 initiator.0 initiator.1)) (text_there initiator.0.1 url.0 url.1))

add_frame_there : (text : List ℕ) (p : Body × List ℕ) → add_frame text ≡ Some p → Spelled body_text (codes "frame" ++ text) p
unfolding add_frame body_text
add_frame_there text p is =
    let sandbox = bind_some (field_by sandbox_of text) _ p is in
    let source = bind_some (src sandbox.0.1) _ p sandbox.2 in
    last_step body_text (codes "frame" ++ text) (AddFrame source.0.0 sandbox.0.0, source.0.1) p source.2
    (joined (joined (word_first (codes "frame") text) (sandbox_there text sandbox.0 sandbox.1)) (src_there sandbox.0.1 source.0 source.1))

remove_frame_there : (text : List ℕ) (p : Body × List ℕ) → remove_frame text ≡ Some p → Spelled body_text (codes "remove" ++ text) p
unfolding remove_frame body_text
remove_frame_there text p is =
    let frame = bind_some (number text) _ p is in
    last_step body_text (codes "remove" ++ text) (RemoveFrame frame.0.0, frame.0.1) p frame.2
    (joined (word_first (codes "remove") text) (number_there text frame.0 frame.1))

open_page_there : (text : List ℕ) (p : Body × List ℕ) → open_page text ≡ Some p → Spelled body_text (codes "page" ++ text) p
unfolding open_page body_text
open_page_there text p is =
    let url = bind_some (text_field text) _ p is in
    last_step body_text (codes "page" ++ text) (OpenPage url.0.0, url.0.1) p url.2
    (joined (word_first (codes "page") text) (text_there text url.0 url.1))

fetch_there : (text : List ℕ) (p : Body × List ℕ) → fetch text ≡ Some p → Spelled body_text (codes "fetch" ++ text) p
unfolding fetch body_text
fetch_there text p is =
    let mode = bind_some (field_by mode_of text) _ p is in
    let initiator = bind_some (origin mode.0.1) _ p mode.2 in
    let url = bind_some (text_field initiator.0.1) _ p initiator.2 in
    last_step body_text (codes "fetch" ++ text) (Fetch url.0.0 mode.0.0 initiator.0.0, url.0.1) p url.2
    (joined (joined (joined (word_first (codes "fetch") text) (mode_there text mode.0 mode.1))
    (origin_there mode.0.1 initiator.0 initiator.1)) (text_there initiator.0.1 url.0 url.1))

post_there : (text : List ℕ) (p : Body × List ℕ) → post text ≡ Some p → Spelled body_text (codes "post" ++ text) p
unfolding post body_text
post_there text p is =
    let frame = bind_some (number text) _ p is in
    let target = bind_some (field_by target_of frame.0.1) _ p frame.2 in
    let source = bind_some (origin target.0.1) _ p target.2 in
    let sent = bind_some (text_field source.0.1) _ p source.2 in
    last_step body_text (codes "post" ++ text) (Post frame.0.0 target.0.0 source.0.0 sent.0.0, sent.0.1) p sent.2
    (joined (joined (joined (joined (word_first (codes "post") text) (number_there text frame.0 frame.1))
    (target_there frame.0.1 target.0 target.1)) (origin_there target.0.1 source.0 source.1)) (text_there source.0.1 sent.0 sent.1))

ask_there : (text : List ℕ) (p : Body × List ℕ) → ask text ≡ Some p → Spelled body_text (codes "ask" ++ text) p
unfolding ask body_text
ask_there text p is =
    let service = bind_some (text_field text) _ p is in
    let asker = bind_some (origin service.0.1) _ p service.2 in
    let request = bind_some (text_field asker.0.1) _ p asker.2 in
    last_step body_text (codes "ask" ++ text) (Ask service.0.0 asker.0.0 request.0.0, request.0.1) p request.2
    (joined (joined (joined (word_first (codes "ask") text) (text_there text service.0 service.1))
    (origin_there service.0.1 asker.0 asker.1)) (text_there asker.0.1 request.0 request.1))

did_commit_there : (text : List ℕ) (p : Body × List ℕ) → did_commit text ≡ Some p → Spelled body_text (codes "commit" ++ text) p
unfolding did_commit body_text
did_commit_there text p is =
    let navigation = bind_some (number text) _ p is in
    let committed = bind_some (origin navigation.0.1) _ p navigation.2 in
    let url = bind_some (text_field committed.0.1) _ p committed.2 in
    last_step body_text (codes "commit" ++ text) (DidCommit navigation.0.0 url.0.0 committed.0.0, url.0.1) p url.2
    (joined (joined (joined (word_first (codes "commit") text) (number_there text navigation.0 navigation.1))
    (origin_there navigation.0.1 committed.0 committed.1)) (text_there committed.0.1 url.0 url.1))

body_by_there : (word text : List ℕ) (p : Body × List ℕ) → body_by word text ≡ Some p → Spelled body_text (word ++ text) p
unfolding body_by
body_by_there word text p =
    let P : List ℕ → Type 0 = λ w. Spelled body_text (w ++ text) p in
    by_word P word (codes "navigate") (navigate text) _ p (navigate_there text p)
    (by_word P word (codes "frame") (add_frame text) _ p (add_frame_there text p)
    (by_word P word (codes "remove") (remove_frame text) _ p (remove_frame_there text p)
    (by_word P word (codes "page") (open_page text) _ p (open_page_there text p)
    (by_word P word (codes "fetch") (fetch text) _ p (fetch_there text p)
    (by_word P word (codes "post") (post text) _ p (post_there text p)
    (by_word P word (codes "ask") (ask text) _ p (ask_there text p)
    (by_word P word (codes "commit") (did_commit text) None p (did_commit_there text p)
    (no_word (P word) p))))))))

pub body_there : (text : List ℕ) (p : Body × List ℕ) → body text ≡ Some p → Front (field (body_text p.0)) p.1 text
body_there = worded body_by body_text body_by_there

-- ---- messages and replies

pub message_there : (text : List ℕ) (p : Message × List ℕ) → message text ≡ Some p → Spelled message_text text p
unfolding message message_text
message_there text p is =
    let document = bind_some (decimal_number (before 32 text)) _ p is in
    let sent = bind_some (body (onwards 32 text)) _ p document.2 in
    let first : Front (decimal document.0) (onwards 32 text) text =
    record { whole = ap (λ t. t ++ onwards 32 text) (decimal_is (before 32 text) document.0 document.1) ∙ around_whole 32 text } in
    last_step message_text text (record { document = document.0; body = sent.0.0 }, sent.0.1) p sent.2
    (joined first (body_there (onwards 32 text) sent.0 sent.1))

answer_there : (text : List ℕ) (p : Reply × List ℕ) → (text_field text >>= λ x. Some (Answer x.0, x.1)) ≡ Some p → Spelled reply_text (codes "answer" ++ text) p
unfolding reply_text
answer_there text p is =
    let sent = bind_some (text_field text) (λ x. Some (Answer x.0, x.1)) p is in
    last_step reply_text (codes "answer" ++ text) (Answer sent.0.0, sent.0.1) p sent.2 (joined (word_first (codes "answer") text) (text_there text sent.0 sent.1))

deny_there : (text : List ℕ) (p : Reply × List ℕ) → (rule text >>= λ x. Some (Deny x.0, x.1)) ≡ Some p → Spelled reply_text (codes "deny" ++ text) p
unfolding reply_text
deny_there text p is =
    let why = bind_some (rule text) (λ x. Some (Deny x.0, x.1)) p is in
    last_step reply_text (codes "deny" ++ text) (Deny why.0.0, why.0.1) p why.2 (joined (word_first (codes "deny") text) (rule_there text why.0 why.1))

drop_there : (text : List ℕ) (p : Reply × List ℕ) → (rule text >>= λ x. Some (Drop x.0, x.1)) ≡ Some p → Spelled reply_text (codes "drop" ++ text) p
unfolding reply_text
drop_there text p is =
    let why = bind_some (rule text) (λ x. Some (Drop x.0, x.1)) p is in
    last_step reply_text (codes "drop" ++ text) (Drop why.0.0, why.0.1) p why.2 (joined (word_first (codes "drop") text) (rule_there text why.0 why.1))

kill_there : (text : List ℕ) (p : Reply × List ℕ) → (rule text >>= λ x. Some (Kill x.0, x.1)) ≡ Some p → Spelled reply_text (codes "kill" ++ text) p
unfolding reply_text
kill_there text p is =
    let why = bind_some (rule text) (λ x. Some (Kill x.0, x.1)) p is in
    last_step reply_text (codes "kill" ++ text) (Kill why.0.0, why.0.1) p why.2 (joined (word_first (codes "kill") text) (rule_there text why.0 why.1))

okay_there : (text : List ℕ) (p : Reply × List ℕ) → Some (Okay, text) ≡ Some p → Spelled reply_text (codes "ok" ++ text) p
unfolding reply_text
okay_there text p is = last_step reply_text (codes "ok" ++ text) (Okay, text) p is (word_first (codes "ok") text)

reply_by_there : (word text : List ℕ) (p : Reply × List ℕ) → reply_by word text ≡ Some p → Spelled reply_text (word ++ text) p
unfolding reply_by
reply_by_there word text p =
    let P : List ℕ → Type 0 = λ w. Spelled reply_text (w ++ text) p in
    by_word P word (codes "ok") (Some (Okay, text)) _ p (okay_there text p)
    (by_word P word (codes "answer") (text_field text >>= λ x. Some (Answer x.0, x.1)) _ p (answer_there text p)
    (by_word P word (codes "deny") (rule text >>= λ x. Some (Deny x.0, x.1)) _ p (deny_there text p)
    (by_word P word (codes "drop") (rule text >>= λ x. Some (Drop x.0, x.1)) _ p (drop_there text p)
    (by_word P word (codes "kill") (rule text >>= λ x. Some (Kill x.0, x.1)) None p (kill_there text p)
    (no_word (P word) p)))))

-- a word at the front, which no space stands before
pub at_front : {A : Type 0} (spell : A → List ℕ) (text : List ℕ) (p : A × List ℕ) → Spelled spell (before 32 text ++ onwards 32 text) p → Front (spell p.0) p.1 text
at_front spell text p there = record { whole = there.whole ∙ around_whole 32 text }

pub reply_there : (text : List ℕ) (p : Reply × List ℕ) → reply text ≡ Some p → Front (reply_text p.0) p.1 text
reply_there text p is = at_front reply_text text p (reply_by_there (before 32 text) (onwards 32 text) p is)

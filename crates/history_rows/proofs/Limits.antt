-- The limits on frames, navigations, requests and processes.
use Rattle.history_rows.proofs.OnLiterals.{history_on_literals}
use Rattle.std.proofs.Common.{refl}
use Rattle.std.specs.List.{range_with_len}
use Rattle.std.specs.Prelude.{◌≡◌, ◌+◌, ◌/◌, ◌%◌, ◌++◌, ◌∷◌, [], List, None, Some, codes, map, replicate, ℕ}
use Rattle.history_rows.proofs.Computing.{https, plain_script}
use Rattle.entry_text.specs.Lines.{reply_text}
use Rattle.page_origin.specs.declared.origin.Origin.{Origin}
use Rattle.page_origin.specs.declared.origin.Origin.TheVariants.{Tuple}
use Rattle.page_origin.specs.declared.site.Scheme.TheVariants.{Https}
use Rattle.page_origin.specs.declared.site.Site.{Site}
use Rattle.history_rules.specs.Choice.{choice}
use Rattle.history_rules.specs.Judgement.{count_row, judge_add_frame, judge_fetch, reply_of_answer}
use Rattle.history_rules.specs.Processes.{started}
use Rattle.script_model.specs.ScriptData.{ScriptData}
use Rattle.service_rule.specs.Store.{RemoveKey, SetKey, StoreRequest, answer_request}
use Rattle.history_entry.specs.declared.body.Body.{Body}
use Rattle.history_entry.specs.declared.body.Body.TheVariants.{Fetch, Navigate}
use Rattle.history_entry.specs.declared.entry.Entry.{Entry}
use Rattle.history_entry.specs.declared.entry.Entry.TheVariants.{Opened, Order, Said, Warm}
use Rattle.history_entry.specs.declared.body.Mode.TheVariants.{NoCors}
use Rattle.history_entry.specs.declared.reply.Reply.TheVariants.{Ok as Okay}
use Rattle.history_entry.specs.declared.rule.Rule.TheVariants.{N6}
use Rattle.history_steps.specs.MayFollow.{end_rule}
use Rattle.history_entry.specs.declared.body.Src.TheVariants.{Doc as FromDoc}
use Rattle.service_rule.specs.declared.service.ServiceAnswer.{ServiceAnswer}

abbrev pub pages : ℕ → ScriptData
pages n = plain_script (replicate n (codes "https://a.com/")) []

abbrev pub a_origin : Origin
a_origin = Tuple (https (codes "a.com"))

-- the site of a host of n + 1 letters
abbrev pub site_number_text : ℕ → Site
site_number_text n = record { scheme = Https; host = replicate (n + 1) 115; only = None }

abbrev pub accepted_body : Body → Entry
accepted_body body = Said 0 0 0 (record { document = 0; body = body }) Okay

abbrev pub navigates : Entry
navigates = accepted_body (Navigate 0 (codes "https://a.com/") a_origin)

abbrev pub fetches : Entry
fetches = accepted_body (Fetch (codes "https://a.com/") NoCors a_origin)

-- 64 frames, of which start frames count from the beginning
pub last_frame : reply_text (judge_add_frame (pages 63) [] (FromDoc 0)) ≡ codes "ok"
unfolding history_on_literals
last_frame = refl

pub no_frame : reply_text (judge_add_frame (pages 64) [] (FromDoc 0)) ≡ codes "deny L1"
unfolding history_on_literals
no_frame = refl

-- 256 navigations
pub last_navigation : reply_text (count_row (pages 4) (replicate 251 navigates)) ≡ codes "ok"
unfolding history_on_literals
last_navigation = refl

pub no_navigation : reply_text (count_row (pages 4) (replicate 252 navigates)) ≡ codes "deny N4"
unfolding history_on_literals
no_navigation = refl

-- 4,096 requests
abbrev pub after_fetches : ℕ → List ℕ
after_fetches n = reply_text (judge_fetch (Order 0 0 (site_number_text 0) a_origin [] ∷ replicate n fetches) 0 (codes "https://a.com/") a_origin)

pub last_request : after_fetches 4095 ≡ codes "ok"
unfolding history_on_literals
last_request = refl

pub no_request : after_fetches 4096 ≡ codes "deny L2"
unfolding history_on_literals
no_request = refl

-- 64 live processes of 64 sites
abbrev pub locks : ℕ → List Entry
locks n = map (λ k. Order k k (site_number_text k) a_origin []) (range_with_len 0 n)

pub no_process : choice (pages 2) (Opened 0 ∷ locks 64) 0 (site_number_text 99) ≡ None
unfolding history_on_literals
no_process = refl

pub last_process : choice (pages 2) (Opened 0 ∷ locks 63) 0 (site_number_text 99) ≡ Some 63
unfolding history_on_literals
last_process = refl

-- a navigation ends where it gets no process
pub ends_without_process : end_rule (pages 2) (Opened 0 ∷ Opened 1 ∷ locks 64) 1 ≡ Some N6
unfolding history_on_literals
ends_without_process = refl

-- the soft limit of 64 is reached, so that the least process of the site is taken again
pub same_process : choice (pages 2) (Opened 0 ∷ locks 64) 0 (site_number_text 7) ≡ Some 7
unfolding history_on_literals
same_process = refl

-- the processes are counted by their greatest number
pub all_started : started (Warm 1022 ∷ Order 0 1023 (site_number_text 1) a_origin [] ∷ Order 1 7 (site_number_text 1) a_origin [] ∷ []) ≡ 1024
unfolding history_on_literals
all_started = refl

-- 256 keys: a further key is refused, but not another value of one that is there, nor a key after a removal
abbrev pub key_of_number : ℕ → List ℕ
key_of_number n = replicate (n / 16 + 1) 97 ++ replicate (n % 16 + 1) 98

abbrev pub many_keys : List StoreRequest
many_keys = map (λ n. SetKey (key_of_number n) []) (range_with_len 0 256)

abbrev pub answer_line : ServiceAnswer → List ℕ
answer_line answer = reply_text (reply_of_answer answer)

pub no_key : answer_line (answer_request many_keys (SetKey (codes "k") [])) ≡ codes "deny S2"
unfolding history_on_literals
no_key = refl

pub same_key : answer_line (answer_request many_keys (SetKey (codes "ab") [])) ≡ codes "answer 646f6e65"
unfolding history_on_literals
same_key = refl

pub freed_key : answer_line (answer_request (many_keys ++ RemoveKey (codes "ab") ∷ []) (SetKey (codes "k") [])) ≡ codes "answer 646f6e65"
unfolding history_on_literals
freed_key = refl

pub one_key : answer_line (answer_request (replicate 300 (SetKey (codes "ab") [])) (SetKey (codes "k") [])) ≡ codes "answer 646f6e65"
unfolding history_on_literals
one_key = refl

-- Wires that fail.
use Rattle.std.proofs.Common.{refl}
use Rattle.std.specs.Prelude.{◌≡◌, ◌∷◌, [], Some, codes}
use Rattle.history_entry.specs.declared.body.Mode.TheVariants.{Cors as InCors, NoCors}
use Rattle.script_model.specs.ScriptData.{ScriptData}
use Rattle.script_model.specs.declared.action.Action.TheVariants.{Fetch as DoFetch, Wait as DoWait}
use Rattle.history_rows.proofs.Computing.{lines_text, page_with, plain_resource, plain_script, run_text, typed}
use Rattle.history_rows.proofs.OnLiterals.{history_on_literals}

-- a response in mode cors breaks off
abbrev pub cut_page : ScriptData
cut_page = plain_script (codes "https://a.com/" ∷ [])
    (page_with (codes "https://a.com/") (DoFetch (codes "https://a.com/d") InCors ∷ DoWait ∷ [])
    ∷ record (plain_resource (codes "https://a.com/d")) { body = codes "0123456789"; fail_after = Some 3 } ∷ [])

pub cut_page_run : run_text cut_page 9 ≡ lines_text (codes "history 2"
    ∷ codes "open 0"
    ∷ codes "order 0 0 https://a.com https://a.com https://a.com/"
    ∷ codes "commit 0 0 https://a.com 68747470733a2f2f612e636f6d2f => ok"
    ∷ codes "said 0 0 0 0 fetch cors https://a.com 68747470733a2f2f612e636f6d2f64 => ok"
    ∷ codes "head 0 A1"
    ∷ codes "piece 0 0 303132"
    ∷ codes "end 0 failed N7"
    ∷ codes "local 0 0 1 waited"
    ∷ [])
unfolding history_on_literals
cut_page_run = refl

-- HTML that breaks off unsettled
abbrev pub cut_html : ScriptData
cut_html = plain_script (codes "https://a.com/" ∷ [])
    (page_with (codes "https://a.com/") (DoFetch (codes "https://b.com/x") NoCors ∷ [])
    ∷ record (typed (codes "https://b.com/x") (codes "text/html") (codes "<html>")) { fail_after = Some 3 } ∷ [])

pub cut_html_run : run_text cut_html 6 ≡ lines_text (codes "history 2"
    ∷ codes "open 0"
    ∷ codes "order 0 0 https://a.com https://a.com https://a.com/"
    ∷ codes "commit 0 0 https://a.com 68747470733a2f2f612e636f6d2f => ok"
    ∷ codes "said 0 0 0 0 fetch no-cors https://a.com 68747470733a2f2f622e636f6d2f78 => ok"
    ∷ codes "end 0 failed N7"
    ∷ [])
unfolding history_on_literals
cut_html_run = refl

-- text that breaks off after it is settled
abbrev pub cut_text : ScriptData
cut_text = plain_script (codes "https://a.com/" ∷ [])
    (page_with (codes "https://a.com/") (DoFetch (codes "https://b.com/x") NoCors ∷ [])
    ∷ record (typed (codes "https://b.com/x") (codes "text/html") (codes "hello")) { fail_after = Some 3 } ∷ [])

pub cut_text_run : run_text cut_text 8 ≡ lines_text (codes "history 2"
    ∷ codes "open 0"
    ∷ codes "order 0 0 https://a.com https://a.com https://a.com/"
    ∷ codes "commit 0 0 https://a.com 68747470733a2f2f612e636f6d2f => ok"
    ∷ codes "said 0 0 0 0 fetch no-cors https://a.com 68747470733a2f2f622e636f6d2f78 => ok"
    ∷ codes "head 0 A5"
    ∷ codes "piece 0 0 68656c"
    ∷ codes "end 0 failed N7"
    ∷ [])
unfolding history_on_literals
cut_text_run = refl

-- a wire that fails at once
abbrev pub cut_first : ScriptData
cut_first = plain_script (codes "https://a.com/" ∷ [])
    (page_with (codes "https://a.com/") (DoFetch (codes "https://b.com/x") NoCors ∷ [])
    ∷ record (typed (codes "https://b.com/x") (codes "text/html") (codes "hello")) { fail_after = Some 0 } ∷ [])

pub cut_first_run : run_text cut_first 6 ≡ lines_text (codes "history 2"
    ∷ codes "open 0"
    ∷ codes "order 0 0 https://a.com https://a.com https://a.com/"
    ∷ codes "commit 0 0 https://a.com 68747470733a2f2f612e636f6d2f => ok"
    ∷ codes "said 0 0 0 0 fetch no-cors https://a.com 68747470733a2f2f622e636f6d2f78 => ok"
    ∷ codes "end 0 failed N7"
    ∷ [])
unfolding history_on_literals
cut_first_run = refl

-- the cuts below the fault alone count
abbrev pub cut_below : ScriptData
cut_below = plain_script (codes "https://a.com/" ∷ [])
    (page_with (codes "https://a.com/") (DoFetch (codes "https://b.com/x") NoCors ∷ [])
    ∷ record (typed (codes "https://b.com/x") (codes "text/html") (codes "hello")) { cuts = 2 ∷ 3 ∷ 4 ∷ []; fail_after = Some 3 } ∷ [])

pub cut_below_run : run_text cut_below 9 ≡ lines_text (codes "history 2"
    ∷ codes "open 0"
    ∷ codes "order 0 0 https://a.com https://a.com https://a.com/"
    ∷ codes "commit 0 0 https://a.com 68747470733a2f2f612e636f6d2f => ok"
    ∷ codes "said 0 0 0 0 fetch no-cors https://a.com 68747470733a2f2f622e636f6d2f78 => ok"
    ∷ codes "head 0 A5"
    ∷ codes "piece 0 0 6865"
    ∷ codes "piece 0 1 6c"
    ∷ codes "end 0 failed N7"
    ∷ [])
unfolding history_on_literals
cut_below_run = refl

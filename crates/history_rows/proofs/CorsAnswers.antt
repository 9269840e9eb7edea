-- Responses in mode cors.
use Rattle.std.proofs.Common.{refl}
use Rattle.std.specs.Prelude.{◌≡◌, ◌∷◌, [], codes}
use Rattle.history_entry.specs.declared.body.Mode.TheVariants.{Cors as InCors}
use Rattle.script_model.specs.ScriptData.{ScriptData}
use Rattle.script_model.specs.declared.action.Action.TheVariants.{Fetch as DoFetch}
use Rattle.history_rows.proofs.Computing.{answer_with, lines_text, page_with, plain_script, run_text}
use Rattle.history_rows.proofs.OnLiterals.{history_on_literals}

-- any origin
abbrev pub any : ScriptData
any = plain_script (codes "https://a.com/" ∷ [])
    (page_with (codes "https://a.com/") (DoFetch (codes "https://b.com/x") InCors ∷ [])
    ∷ answer_with (codes "https://b.com/x") 200 ((codes "content-type", (codes "text/html" ∷ [])) ∷ (codes "access-control-allow-origin", (codes "*" ∷ [])) ∷ []) ∷ [])

pub any_run : run_text any 7 ≡ lines_text (codes "history 2"
    ∷ codes "open 0"
    ∷ codes "order 0 0 https://a.com https://a.com https://a.com/"
    ∷ codes "commit 0 0 https://a.com 68747470733a2f2f612e636f6d2f => ok"
    ∷ codes "said 0 0 0 0 fetch cors https://a.com 68747470733a2f2f622e636f6d2f78 => ok"
    ∷ codes "head 0 A2"
    ∷ codes "end 0 whole"
    ∷ [])
unfolding history_on_literals
any_run = refl

-- the own origin
abbrev pub own : ScriptData
own = plain_script (codes "https://a.com/" ∷ [])
    (page_with (codes "https://a.com/") (DoFetch (codes "https://b.com/x") InCors ∷ [])
    ∷ answer_with (codes "https://b.com/x") 200 ((codes "content-type", (codes "text/html" ∷ [])) ∷ (codes "access-control-allow-origin", (codes "https://a.com" ∷ [])) ∷ []) ∷ [])

pub own_run : run_text own 7 ≡ lines_text (codes "history 2"
    ∷ codes "open 0"
    ∷ codes "order 0 0 https://a.com https://a.com https://a.com/"
    ∷ codes "commit 0 0 https://a.com 68747470733a2f2f612e636f6d2f => ok"
    ∷ codes "said 0 0 0 0 fetch cors https://a.com 68747470733a2f2f622e636f6d2f78 => ok"
    ∷ codes "head 0 A2"
    ∷ codes "end 0 whole"
    ∷ [])
unfolding history_on_literals
own_run = refl

-- two answers
abbrev pub two_answers : ScriptData
two_answers = plain_script (codes "https://a.com/" ∷ [])
    (page_with (codes "https://a.com/") (DoFetch (codes "https://b.com/x") InCors ∷ [])
    ∷ answer_with (codes "https://b.com/x") 200 ((codes "content-type", (codes "text/html" ∷ [])) ∷ (codes "access-control-allow-origin", (codes "https://a.com" ∷ codes "https://b.com" ∷ [])) ∷ []) ∷ [])

pub two_answers_run : run_text two_answers 6 ≡ lines_text (codes "history 2"
    ∷ codes "open 0"
    ∷ codes "order 0 0 https://a.com https://a.com https://a.com/"
    ∷ codes "commit 0 0 https://a.com 68747470733a2f2f612e636f6d2f => ok"
    ∷ codes "said 0 0 0 0 fetch cors https://a.com 68747470733a2f2f622e636f6d2f78 => ok"
    ∷ codes "end 0 blocked B1"
    ∷ [])
unfolding history_on_literals
two_answers_run = refl

-- no answer
abbrev pub no_answer : ScriptData
no_answer = plain_script (codes "https://a.com/" ∷ [])
    (page_with (codes "https://a.com/") (DoFetch (codes "https://b.com/x") InCors ∷ [])
    ∷ answer_with (codes "https://b.com/x") 200 ((codes "content-type", (codes "text/html" ∷ [])) ∷ []) ∷ [])

pub no_answer_run : run_text no_answer 6 ≡ lines_text (codes "history 2"
    ∷ codes "open 0"
    ∷ codes "order 0 0 https://a.com https://a.com https://a.com/"
    ∷ codes "commit 0 0 https://a.com 68747470733a2f2f612e636f6d2f => ok"
    ∷ codes "said 0 0 0 0 fetch cors https://a.com 68747470733a2f2f622e636f6d2f78 => ok"
    ∷ codes "end 0 blocked B1"
    ∷ [])
unfolding history_on_literals
no_answer_run = refl

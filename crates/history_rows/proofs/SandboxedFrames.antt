-- Sandboxed frames commit in opaque origins.
use Rattle.std.proofs.Common.{refl}
use Rattle.std.specs.Prelude.{◌≡◌, ◌∷◌, [], codes, false, true}
use Rattle.history_entry.specs.declared.body.Src.TheVariants.{Doc as FromDoc, Url as FromUrl}
use Rattle.script_model.specs.ScriptData.{ScriptData}
use Rattle.script_model.specs.declared.action.Action.TheVariants.{Ask as DoAsk, Frame as DoFrame}
use Rattle.script_model.specs.declared.action.RawBody.TheVariants.{Commit as RawCommit}
use Rattle.history_rows.proofs.Computing.{forged, https, lines_text, page_with, plain_script, run_text}
use Rattle.history_rows.proofs.OnLiterals.{history_on_literals}

-- a forged commit with the tuple origin
abbrev pub sandboxed_blank : ScriptData
sandboxed_blank = plain_script (codes "https://a.com/" ∷ [])
    (page_with (codes "https://a.com/")
    (DoFrame (FromUrl (codes "about:blank")) true
    ∷ forged (RawCommit 1 (codes "about:blank") (https (codes "a.com"))) ∷ []) ∷ [])

pub sandboxed_blank_run : run_text sandboxed_blank 7 ≡ lines_text (codes "history 2"
    ∷ codes "open 0"
    ∷ codes "order 0 0 https://a.com https://a.com https://a.com/"
    ∷ codes "commit 0 0 https://a.com 68747470733a2f2f612e636f6d2f => ok"
    ∷ codes "said 0 0 0 0 frame sandboxed url 61626f75743a626c616e6b => ok"
    ∷ codes "order 1 0 https://a.com opaque:1:https://a.com about:blank"
    ∷ codes "said 0 0 1 0 commit 1 https://a.com 61626f75743a626c616e6b => kill K10"
    ∷ [])
unfolding history_on_literals
sandboxed_blank_run = refl

-- a sandboxed data URL
abbrev pub sandboxed_data : ScriptData
sandboxed_data = plain_script (codes "https://a.com/" ∷ [])
    (page_with (codes "https://a.com/") (DoFrame (FromUrl (codes "data:,x")) true ∷ []) ∷ [])

pub sandboxed_data_run : run_text sandboxed_data 7 ≡ lines_text (codes "history 2"
    ∷ codes "open 0"
    ∷ codes "order 0 0 https://a.com https://a.com https://a.com/"
    ∷ codes "commit 0 0 https://a.com 68747470733a2f2f612e636f6d2f => ok"
    ∷ codes "said 0 0 0 0 frame sandboxed url 646174613a2c78 => ok"
    ∷ codes "order 1 0 https://a.com opaque:1:https://a.com data:,x"
    ∷ codes "commit 0 1 opaque:1:https://a.com 646174613a2c78 => ok"
    ∷ [])
unfolding history_on_literals
sandboxed_data_run = refl

-- a frame of a resource that is not there
abbrev pub plain_doc : ScriptData
plain_doc = plain_script (codes "https://a.com/" ∷ [])
    (page_with (codes "https://a.com/") (DoFrame (FromDoc 9) false ∷ []) ∷ [])

pub plain_doc_run : run_text plain_doc 7 ≡ lines_text (codes "history 2"
    ∷ codes "open 0"
    ∷ codes "order 0 0 https://a.com https://a.com https://a.com/"
    ∷ codes "commit 0 0 https://a.com 68747470733a2f2f612e636f6d2f => ok"
    ∷ codes "said 0 0 0 0 frame plain doc 9 => ok"
    ∷ codes "order 1 0 https://a.com https://a.com about:srcdoc"
    ∷ codes "commit 0 1 https://a.com 61626f75743a737263646f63 => ok"
    ∷ [])
unfolding history_on_literals
plain_doc_run = refl

-- an ask of a sandboxed child
abbrev pub sandboxed_ask : ScriptData
sandboxed_ask = plain_script (codes "https://a.com/" ∷ [])
    (page_with (codes "https://a.com/") (DoFrame (FromUrl (codes "about:blank#x")) true ∷ [])
    ∷ page_with (codes "about:blank") (DoAsk (codes "store") (codes "get k") ∷ []) ∷ [])

pub sandboxed_ask_run : run_text sandboxed_ask 8 ≡ lines_text (codes "history 2"
    ∷ codes "open 0"
    ∷ codes "order 0 0 https://a.com https://a.com https://a.com/"
    ∷ codes "commit 0 0 https://a.com 68747470733a2f2f612e636f6d2f => ok"
    ∷ codes "said 0 0 0 0 frame sandboxed url 61626f75743a626c616e6b2378 => ok"
    ∷ codes "order 1 0 https://a.com opaque:1:https://a.com about:blank#x"
    ∷ codes "commit 0 1 opaque:1:https://a.com 61626f75743a626c616e6b2378 => ok"
    ∷ codes "said 0 1 0 1 ask 73746f7265 opaque:1:https://a.com 676574206b => deny S1"
    ∷ [])
unfolding history_on_literals
sandboxed_ask_run = refl

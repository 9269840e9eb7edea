-- A sandboxed child fetches as null.
use Rattle.std.proofs.Common.{refl}
use Rattle.std.specs.Prelude.{◌≡◌, ◌∷◌, [], codes, true}
use Rattle.history_entry.specs.declared.body.Mode.TheVariants.{Cors as InCors, NoCors}
use Rattle.history_entry.specs.declared.body.Src.TheVariants.{Url as FromUrl}
use Rattle.script_model.specs.ScriptData.{ScriptData}
use Rattle.script_model.specs.declared.action.Action.TheVariants.{Fetch as DoFetch, Frame as DoFrame}
use Rattle.history_rows.proofs.Computing.{answer_with, lines_text, page_with, plain_script, run_text, typed}
use Rattle.history_rows.proofs.OnLiterals.{history_on_literals}

-- an answer of null
abbrev pub null_fetch : ScriptData
null_fetch = plain_script (codes "https://a.com/" ∷ [])
    (page_with (codes "https://a.com/") (DoFrame (FromUrl (codes "about:blank")) true ∷ [])
    ∷ page_with (codes "about:blank") (DoFetch (codes "https://b.com/x") InCors ∷ [])
    ∷ answer_with (codes "https://b.com/x") 200 ((codes "access-control-allow-origin", (codes "null" ∷ [])) ∷ []) ∷ [])

pub null_fetch_run : run_text null_fetch 10 ≡ lines_text (codes "history 2"
    ∷ codes "open 0"
    ∷ codes "order 0 0 https://a.com https://a.com https://a.com/"
    ∷ codes "commit 0 0 https://a.com 68747470733a2f2f612e636f6d2f => ok"
    ∷ codes "said 0 0 0 0 frame sandboxed url 61626f75743a626c616e6b => ok"
    ∷ codes "order 1 0 https://a.com opaque:1:https://a.com about:blank"
    ∷ codes "commit 0 1 opaque:1:https://a.com 61626f75743a626c616e6b => ok"
    ∷ codes "said 0 1 0 1 fetch cors opaque:1:https://a.com 68747470733a2f2f622e636f6d2f78 => ok"
    ∷ codes "head 0 A2"
    ∷ codes "end 0 whole"
    ∷ [])
unfolding history_on_literals
null_fetch_run = refl

-- an opaque origin is not let through by its site
abbrev pub own_site_fetch : ScriptData
own_site_fetch = plain_script (codes "https://a.com/" ∷ [])
    (page_with (codes "https://a.com/") (DoFrame (FromUrl (codes "about:blank")) true ∷ [])
    ∷ page_with (codes "about:blank") (DoFetch (codes "https://a.com/1") NoCors ∷ [])
    ∷ typed (codes "https://a.com/1") (codes "text/html") (codes "<p") ∷ [])

pub own_site_fetch_run : run_text own_site_fetch 9 ≡ lines_text (codes "history 2"
    ∷ codes "open 0"
    ∷ codes "order 0 0 https://a.com https://a.com https://a.com/"
    ∷ codes "commit 0 0 https://a.com 68747470733a2f2f612e636f6d2f => ok"
    ∷ codes "said 0 0 0 0 frame sandboxed url 61626f75743a626c616e6b => ok"
    ∷ codes "order 1 0 https://a.com opaque:1:https://a.com about:blank"
    ∷ codes "commit 0 1 opaque:1:https://a.com 61626f75743a626c616e6b => ok"
    ∷ codes "said 0 1 0 1 fetch no-cors opaque:1:https://a.com 68747470733a2f2f612e636f6d2f31 => ok"
    ∷ codes "end 0 blocked B4"
    ∷ [])
unfolding history_on_literals
own_site_fetch_run = refl

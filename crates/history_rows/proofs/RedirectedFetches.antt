-- Fetches that are redirected.
use Rattle.std.proofs.Common.{refl}
use Rattle.std.specs.Prelude.{◌≡◌, ◌∷◌, [], codes}
use Rattle.history_entry.specs.declared.body.Mode.TheVariants.{Cors as InCors, NoCors}
use Rattle.script_model.specs.ScriptData.{ScriptData}
use Rattle.script_model.specs.declared.action.Action.TheVariants.{Fetch as DoFetch}
use Rattle.history_rows.proofs.Computing.{answer_with, lines_text, page_with, plain_script, redirect, run_text, typed}
use Rattle.history_rows.proofs.OnLiterals.{history_on_literals}

-- over another site and back
abbrev pub there_and_back : ScriptData
there_and_back = plain_script (codes "https://a.com/" ∷ [])
    (page_with (codes "https://a.com/") (DoFetch (codes "https://a.com/1") NoCors ∷ [])
    ∷ redirect (codes "https://a.com/1") 302 (codes "https://b.com/2")
    ∷ redirect (codes "https://b.com/2") 302 (codes "https://a.com/3")
    ∷ typed (codes "https://a.com/3") (codes "text/html") (codes "<p") ∷ [])

pub there_and_back_run : run_text there_and_back 8 ≡ lines_text (codes "history 2"
    ∷ codes "open 0"
    ∷ codes "order 0 0 https://a.com https://a.com https://a.com/"
    ∷ codes "commit 0 0 https://a.com 68747470733a2f2f612e636f6d2f => ok"
    ∷ codes "said 0 0 0 0 fetch no-cors https://a.com 68747470733a2f2f612e636f6d2f31 => ok"
    ∷ codes "hop req 0 https://b.com/2"
    ∷ codes "hop req 0 https://a.com/3"
    ∷ codes "end 0 blocked B4"
    ∷ [])
unfolding history_on_literals
there_and_back_run = refl

-- a redirect whose CORS answer fails
abbrev pub cors_hop : ScriptData
cors_hop = plain_script (codes "https://a.com/" ∷ [])
    (page_with (codes "https://a.com/") (DoFetch (codes "https://b.com/2") InCors ∷ [])
    ∷ redirect (codes "https://b.com/2") 302 (codes "https://a.com/3") ∷ [])

pub cors_hop_run : run_text cors_hop 6 ≡ lines_text (codes "history 2"
    ∷ codes "open 0"
    ∷ codes "order 0 0 https://a.com https://a.com https://a.com/"
    ∷ codes "commit 0 0 https://a.com 68747470733a2f2f612e636f6d2f => ok"
    ∷ codes "said 0 0 0 0 fetch cors https://a.com 68747470733a2f2f622e636f6d2f32 => ok"
    ∷ codes "end 0 blocked B1"
    ∷ [])
unfolding history_on_literals
cors_hop_run = refl

-- null after a detour
abbrev pub tainted : ScriptData
tainted = plain_script (codes "https://a.com/" ∷ [])
    (page_with (codes "https://a.com/") (DoFetch (codes "https://b.com/2") InCors ∷ [])
    ∷ answer_with (codes "https://b.com/2") 302 ((codes "location", (codes "https://c.com/3" ∷ [])) ∷ (codes "access-control-allow-origin", (codes "*" ∷ [])) ∷ [])
    ∷ answer_with (codes "https://c.com/3") 200 ((codes "access-control-allow-origin", (codes "null" ∷ [])) ∷ []) ∷ [])

pub tainted_run : run_text tainted 8 ≡ lines_text (codes "history 2"
    ∷ codes "open 0"
    ∷ codes "order 0 0 https://a.com https://a.com https://a.com/"
    ∷ codes "commit 0 0 https://a.com 68747470733a2f2f612e636f6d2f => ok"
    ∷ codes "said 0 0 0 0 fetch cors https://a.com 68747470733a2f2f622e636f6d2f32 => ok"
    ∷ codes "hop req 0 https://c.com/3"
    ∷ codes "head 0 A2"
    ∷ codes "end 0 whole"
    ∷ [])
unfolding history_on_literals
tainted_run = refl

-- a redirect to a data URL
abbrev pub to_nowhere : ScriptData
to_nowhere = plain_script (codes "https://a.com/" ∷ [])
    (page_with (codes "https://a.com/") (DoFetch (codes "https://b.com/2") NoCors ∷ [])
    ∷ redirect (codes "https://b.com/2") 302 (codes "data:,x") ∷ [])

pub to_nowhere_run : run_text to_nowhere 6 ≡ lines_text (codes "history 2"
    ∷ codes "open 0"
    ∷ codes "order 0 0 https://a.com https://a.com https://a.com/"
    ∷ codes "commit 0 0 https://a.com 68747470733a2f2f612e636f6d2f => ok"
    ∷ codes "said 0 0 0 0 fetch no-cors https://a.com 68747470733a2f2f622e636f6d2f32 => ok"
    ∷ codes "end 0 failed F1"
    ∷ [])
unfolding history_on_literals
to_nowhere_run = refl

-- from the own origin to another is no detour
abbrev pub from_own : ScriptData
from_own = plain_script (codes "https://a.com/" ∷ [])
    (page_with (codes "https://a.com/") (DoFetch (codes "https://a.com/1") InCors ∷ [])
    ∷ redirect (codes "https://a.com/1") 302 (codes "https://b.com/2")
    ∷ answer_with (codes "https://b.com/2") 200 ((codes "access-control-allow-origin", (codes "https://a.com" ∷ [])) ∷ []) ∷ [])

pub from_own_run : run_text from_own 8 ≡ lines_text (codes "history 2"
    ∷ codes "open 0"
    ∷ codes "order 0 0 https://a.com https://a.com https://a.com/"
    ∷ codes "commit 0 0 https://a.com 68747470733a2f2f612e636f6d2f => ok"
    ∷ codes "said 0 0 0 0 fetch cors https://a.com 68747470733a2f2f612e636f6d2f31 => ok"
    ∷ codes "hop req 0 https://b.com/2"
    ∷ codes "head 0 A2"
    ∷ codes "end 0 whole"
    ∷ [])
unfolding history_on_literals
from_own_run = refl

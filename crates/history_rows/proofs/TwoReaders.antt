-- Two pages that fetch the same secret.
use Rattle.std.proofs.Common.{refl}
use Rattle.std.specs.Prelude.{◌≡◌, ◌∷◌, [], codes}
use Rattle.history_entry.specs.declared.body.Mode.TheVariants.{NoCors}
use Rattle.script_model.specs.ResourceData.{ResourceData}
use Rattle.script_model.specs.ScriptData.{ScriptData}
use Rattle.script_model.specs.declared.action.Action.TheVariants.{Fetch as DoFetch}
use Rattle.history_rows.proofs.Computing.{lines_text, page_with, plain_script, run_text, typed}
use Rattle.history_rows.proofs.OnLiterals.{history_on_literals}

-- only the own site receives it
abbrev pub two_readers_2 : ResourceData
two_readers_2 = typed (codes "https://b.com/x") (codes "text/html") (codes "<html>")

abbrev pub two_readers : ScriptData
two_readers = plain_script (codes "https://a.com/" ∷ codes "https://b.com/" ∷ [])
    (page_with (codes "https://a.com/") (DoFetch (codes "https://b.com/x") NoCors ∷ [])
    ∷ page_with (codes "https://b.com/") (DoFetch (codes "https://b.com/x") NoCors ∷ []) ∷ two_readers_2 ∷ [])

pub two_readers_run : run_text two_readers 13 ≡ lines_text (codes "history 2"
    ∷ codes "open 0"
    ∷ codes "open 1"
    ∷ codes "order 0 0 https://a.com https://a.com https://a.com/"
    ∷ codes "order 1 1 https://b.com https://b.com https://b.com/"
    ∷ codes "commit 0 0 https://a.com 68747470733a2f2f612e636f6d2f => ok"
    ∷ codes "said 0 0 0 0 fetch no-cors https://a.com 68747470733a2f2f622e636f6d2f78 => ok"
    ∷ codes "commit 1 1 https://b.com 68747470733a2f2f622e636f6d2f => ok"
    ∷ codes "said 1 1 0 1 fetch no-cors https://b.com 68747470733a2f2f622e636f6d2f78 => ok"
    ∷ codes "head 1 A3"
    ∷ codes "piece 1 0 3c68746d6c3e"
    ∷ codes "end 0 blocked B4"
    ∷ codes "end 1 whole"
    ∷ [])
unfolding history_on_literals
two_readers_run = refl

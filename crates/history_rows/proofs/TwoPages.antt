-- Two start pages of one site, by the soft limit.
use Rattle.std.proofs.Common.{refl}
use Rattle.std.specs.Prelude.{◌≡◌, ◌∷◌, [], codes}
use Rattle.script_model.specs.ScriptData.{ScriptData}
use Rattle.history_rows.proofs.Computing.{lines_text, plain_script, run_text}
use Rattle.history_rows.proofs.OnLiterals.{history_on_literals}

-- below the soft limit each has its own process
abbrev pub two_pages : ScriptData
two_pages = plain_script (codes "https://a.com/" ∷ codes "https://a.com/g" ∷ []) []

pub two_pages_run : run_text two_pages 7 ≡ lines_text (codes "history 2"
    ∷ codes "open 0"
    ∷ codes "open 1"
    ∷ codes "order 0 0 https://a.com https://a.com https://a.com/"
    ∷ codes "order 1 1 https://a.com https://a.com https://a.com/g"
    ∷ codes "commit 0 0 https://a.com 68747470733a2f2f612e636f6d2f => ok"
    ∷ codes "commit 1 1 https://a.com 68747470733a2f2f612e636f6d2f67 => ok"
    ∷ [])
unfolding history_on_literals
two_pages_run = refl

-- a soft limit of 1
abbrev pub limited_pages : ScriptData
limited_pages = record (plain_script (codes "https://a.com/" ∷ codes "https://a.com/g" ∷ []) []) { soft_limit = 1 }

pub limited_pages_run : run_text limited_pages 7 ≡ lines_text (codes "history 2"
    ∷ codes "open 0"
    ∷ codes "open 1"
    ∷ codes "order 0 0 https://a.com https://a.com https://a.com/"
    ∷ codes "order 1 0 https://a.com https://a.com https://a.com/g"
    ∷ codes "commit 0 0 https://a.com 68747470733a2f2f612e636f6d2f => ok"
    ∷ codes "commit 0 1 https://a.com 68747470733a2f2f612e636f6d2f67 => ok"
    ∷ [])
unfolding history_on_literals
limited_pages_run = refl

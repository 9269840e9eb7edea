-- A forged commit of a bank's page.
use Rattle.std.proofs.Common.{refl}
use Rattle.std.specs.Prelude.{◌≡◌, ◌∷◌, [], codes, false}
use Rattle.history_entry.specs.declared.body.Src.TheVariants.{Url as FromUrl}
use Rattle.script_model.specs.ScriptData.{ScriptData}
use Rattle.script_model.specs.declared.action.Action.TheVariants.{Frame as DoFrame}
use Rattle.script_model.specs.declared.action.RawBody.TheVariants.{Commit as RawCommit}
use Rattle.history_rows.proofs.Computing.{forged, https, lines_text, page_with, plain_script, run_text}
use Rattle.history_rows.proofs.OnLiterals.{history_on_literals}

-- a child frame whose commit is forged
abbrev pub forged_page : ScriptData
forged_page = plain_script (codes "https://a.com/" ∷ [])
    (page_with (codes "https://a.com/")
    (DoFrame (FromUrl (codes "https://a.com/f")) false
    ∷ forged (RawCommit 1 (codes "https://bank.com/") (https (codes "bank.com"))) ∷ []) ∷ [])

pub forged_run : run_text forged_page 7 ≡ lines_text (codes "history 2"
    ∷ codes "open 0"
    ∷ codes "order 0 0 https://a.com https://a.com https://a.com/"
    ∷ codes "commit 0 0 https://a.com 68747470733a2f2f612e636f6d2f => ok"
    ∷ codes "said 0 0 0 0 frame plain url 68747470733a2f2f612e636f6d2f66 => ok"
    ∷ codes "order 1 0 https://a.com https://a.com https://a.com/f"
    ∷ codes "said 0 0 1 0 commit 1 https://bank.com 68747470733a2f2f62616e6b2e636f6d2f => kill K9"
    ∷ [])
unfolding history_on_literals
forged_run = refl

-- a second start page never commits
abbrev pub forged_second : ScriptData
forged_second = record (plain_script (codes "https://a.com/" ∷ codes "https://a.com/g" ∷ [])
    (page_with (codes "https://a.com/")
    (DoFrame (FromUrl (codes "https://a.com/f")) false
    ∷ forged (RawCommit 2 (codes "https://bank.com/") (https (codes "bank.com"))) ∷ []) ∷ [])) { soft_limit = 0 }

pub forged_second_run : run_text forged_second 9 ≡ lines_text (codes "history 2"
    ∷ codes "open 0"
    ∷ codes "open 1"
    ∷ codes "order 0 0 https://a.com https://a.com https://a.com/"
    ∷ codes "order 1 0 https://a.com https://a.com https://a.com/g"
    ∷ codes "commit 0 0 https://a.com 68747470733a2f2f612e636f6d2f => ok"
    ∷ codes "said 0 0 0 0 frame plain url 68747470733a2f2f612e636f6d2f66 => ok"
    ∷ codes "order 2 0 https://a.com https://a.com https://a.com/f"
    ∷ codes "said 0 0 1 0 commit 2 https://bank.com 68747470733a2f2f62616e6b2e636f6d2f => kill K9"
    ∷ [])
unfolding history_on_literals
forged_second_run = refl

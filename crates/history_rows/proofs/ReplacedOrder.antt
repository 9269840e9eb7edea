-- A replaced order is dropped.
use Rattle.std.proofs.Common.{refl}
use Rattle.std.specs.Prelude.{◌≡◌, ◌∷◌, [], codes, false}
use Rattle.history_entry.specs.declared.body.Src.TheVariants.{Url as FromUrl}
use Rattle.script_model.specs.ScriptData.{ScriptData}
use Rattle.script_model.specs.declared.action.Action.TheVariants.{Frame as DoFrame, Navigate as DoNavigate}
use Rattle.script_model.specs.declared.action.FrameRef.TheVariants.{Child}
use Rattle.history_rows.proofs.Computing.{lines_text, page_with, plain_script, run_text}
use Rattle.history_rows.proofs.OnLiterals.{history_on_literals}

-- a child is navigated before it commits
abbrev pub replaced : ScriptData
replaced = plain_script (codes "https://a.com/" ∷ [])
    (page_with (codes "https://a.com/")
    (DoFrame (FromUrl (codes "https://a.com/f")) false
    ∷ DoNavigate (Child 0) (codes "https://b.com/") ∷ []) ∷ [])

pub replaced_run : run_text replaced 10 ≡ lines_text (codes "history 2"
    ∷ codes "open 0"
    ∷ codes "order 0 0 https://a.com https://a.com https://a.com/"
    ∷ codes "commit 0 0 https://a.com 68747470733a2f2f612e636f6d2f => ok"
    ∷ codes "said 0 0 0 0 frame plain url 68747470733a2f2f612e636f6d2f66 => ok"
    ∷ codes "order 1 0 https://a.com https://a.com https://a.com/f"
    ∷ codes "said 0 0 1 0 navigate 1 https://a.com 68747470733a2f2f622e636f6d2f => ok"
    ∷ codes "order 2 1 https://b.com https://b.com https://b.com/"
    ∷ codes "commit 0 1 https://a.com 68747470733a2f2f612e636f6d2f66 => drop G3"
    ∷ codes "commit 1 2 https://b.com 68747470733a2f2f622e636f6d2f => ok"
    ∷ [])
unfolding history_on_literals
replaced_run = refl

-- Pages that were opened, their openers and their groups.
use Rattle.std.proofs.Common.{refl}
use Rattle.std.specs.Prelude.{◌≡◌, ◌∷◌, [], codes, false}
use Rattle.history_entry.specs.declared.body.Src.TheVariants.{Url as FromUrl}
use Rattle.script_model.specs.ScriptData.{ScriptData}
use Rattle.script_model.specs.declared.action.Action.TheVariants.{Frame as DoFrame, Navigate as DoNavigate, Page as DoPage, Wait as DoWait}
use Rattle.script_model.specs.declared.action.FrameRef.TheVariants.{Child, Opener}
use Rattle.history_rows.proofs.Computing.{lines_text, page_with, plain_script, run_text}
use Rattle.history_rows.proofs.OnLiterals.{history_on_literals}

-- a page navigates its opener
abbrev pub opener : ScriptData
opener = plain_script (codes "https://a.com/" ∷ [])
    (page_with (codes "https://a.com/") (DoPage (codes "https://b.com/") ∷ [])
    ∷ page_with (codes "https://b.com/") (DoNavigate Opener (codes "https://b.com/2") ∷ []) ∷ [])

pub opener_run : run_text opener 11 ≡ lines_text (codes "history 2"
    ∷ codes "open 0"
    ∷ codes "order 0 0 https://a.com https://a.com https://a.com/"
    ∷ codes "commit 0 0 https://a.com 68747470733a2f2f612e636f6d2f => ok"
    ∷ codes "said 0 0 0 0 page 68747470733a2f2f622e636f6d2f => ok"
    ∷ codes "order 1 1 https://b.com https://b.com https://b.com/"
    ∷ codes "commit 1 1 https://b.com 68747470733a2f2f622e636f6d2f => ok"
    ∷ codes "said 1 1 0 1 navigate 0 https://b.com 68747470733a2f2f622e636f6d2f32 => ok"
    ∷ codes "order 2 1 https://b.com https://b.com https://b.com/2"
    ∷ codes "commit 1 2 https://b.com 68747470733a2f2f622e636f6d2f32 => ok"
    ∷ codes "exit 0"
    ∷ [])
unfolding history_on_literals
opener_run = refl

-- a grandchild is removed with its parent document
abbrev pub grandchild : ScriptData
grandchild = plain_script (codes "https://a.com/" ∷ [])
    (page_with (codes "https://a.com/")
    (DoFrame (FromUrl (codes "https://a.com/f")) false
    ∷ DoWait
    ∷ DoNavigate (Child 0) (codes "https://a.com/2") ∷ [])
    ∷ page_with (codes "https://a.com/f") (DoFrame (FromUrl (codes "https://b.com/")) false ∷ []) ∷ [])

pub grandchild_run : run_text grandchild 15 ≡ lines_text (codes "history 2"
    ∷ codes "open 0"
    ∷ codes "order 0 0 https://a.com https://a.com https://a.com/"
    ∷ codes "commit 0 0 https://a.com 68747470733a2f2f612e636f6d2f => ok"
    ∷ codes "said 0 0 0 0 frame plain url 68747470733a2f2f612e636f6d2f66 => ok"
    ∷ codes "order 1 0 https://a.com https://a.com https://a.com/f"
    ∷ codes "commit 0 1 https://a.com 68747470733a2f2f612e636f6d2f66 => ok"
    ∷ codes "said 0 1 0 1 frame plain url 68747470733a2f2f622e636f6d2f => ok"
    ∷ codes "order 2 1 https://b.com https://b.com https://b.com/"
    ∷ codes "commit 1 2 https://b.com 68747470733a2f2f622e636f6d2f => ok"
    ∷ codes "local 0 0 1 waited"
    ∷ codes "said 0 0 2 0 navigate 1 https://a.com 68747470733a2f2f612e636f6d2f32 => ok"
    ∷ codes "order 3 0 https://a.com https://a.com https://a.com/2"
    ∷ codes "commit 0 3 https://a.com 68747470733a2f2f612e636f6d2f32 => ok"
    ∷ codes "exit 1"
    ∷ [])
unfolding history_on_literals
grandchild_run = refl

-- a waiting order of the group has its process taken again
abbrev pub waiting_in_group : ScriptData
waiting_in_group = plain_script (codes "https://a.com/" ∷ [])
    (page_with (codes "https://a.com/")
    (DoFrame (FromUrl (codes "https://b.com/")) false
    ∷ DoPage (codes "https://b.com/") ∷ []) ∷ [])

pub waiting_in_group_run : run_text waiting_in_group 10 ≡ lines_text (codes "history 2"
    ∷ codes "open 0"
    ∷ codes "order 0 0 https://a.com https://a.com https://a.com/"
    ∷ codes "commit 0 0 https://a.com 68747470733a2f2f612e636f6d2f => ok"
    ∷ codes "said 0 0 0 0 frame plain url 68747470733a2f2f622e636f6d2f => ok"
    ∷ codes "order 1 1 https://b.com https://b.com https://b.com/"
    ∷ codes "said 0 0 1 0 page 68747470733a2f2f622e636f6d2f => ok"
    ∷ codes "order 2 1 https://b.com https://b.com https://b.com/"
    ∷ codes "commit 1 1 https://b.com 68747470733a2f2f622e636f6d2f => ok"
    ∷ codes "commit 1 2 https://b.com 68747470733a2f2f622e636f6d2f => ok"
    ∷ [])
unfolding history_on_literals
waiting_in_group_run = refl

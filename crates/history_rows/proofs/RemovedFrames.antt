-- Removed frames, crashes, exits and pages.
use Rattle.std.proofs.Common.{refl}
use Rattle.std.specs.Prelude.{◌≡◌, ◌∷◌, [], codes, false}
use Rattle.history_entry.specs.declared.body.Src.TheVariants.{Url as FromUrl}
use Rattle.history_entry.specs.declared.body.Target.TheVariants.{Any}
use Rattle.script_model.specs.ScriptData.{ScriptData}
use Rattle.script_model.specs.declared.action.Action.TheVariants.{Crash as DoCrash, Frame as DoFrame, Navigate as DoNavigate, Page as DoPage, Post as DoPost, Remove as DoRemove, Wait as DoWait}
use Rattle.script_model.specs.declared.action.FrameRef.TheVariants.{Opener, Own, Parent}
use Rattle.history_rows.proofs.Computing.{lines_text, page_with, plain_script, run_text}
use Rattle.history_rows.proofs.OnLiterals.{history_on_literals}

-- a frame is removed twice
abbrev pub removed_twice : ScriptData
removed_twice = plain_script (codes "https://a.com/" ∷ [])
    (page_with (codes "https://a.com/") (DoFrame (FromUrl (codes "https://a.com/f")) false ∷ DoRemove 0 ∷ DoRemove 0 ∷ []) ∷ [])

pub removed_twice_run : run_text removed_twice 9 ≡ lines_text (codes "history 2"
    ∷ codes "open 0"
    ∷ codes "order 0 0 https://a.com https://a.com https://a.com/"
    ∷ codes "commit 0 0 https://a.com 68747470733a2f2f612e636f6d2f => ok"
    ∷ codes "said 0 0 0 0 frame plain url 68747470733a2f2f612e636f6d2f66 => ok"
    ∷ codes "order 1 0 https://a.com https://a.com https://a.com/f"
    ∷ codes "said 0 0 1 0 remove 1 => ok"
    ∷ codes "said 0 0 2 0 remove 1 => drop G2"
    ∷ codes "commit 0 1 https://a.com 68747470733a2f2f612e636f6d2f66 => drop G3"
    ∷ [])
unfolding history_on_literals
removed_twice_run = refl

-- a page navigates itself to another site
abbrev pub moves_away : ScriptData
moves_away = plain_script (codes "https://a.com/" ∷ [])
    (page_with (codes "https://a.com/") (DoNavigate Own (codes "https://b.com/") ∷ []) ∷ [])

pub moves_away_run : run_text moves_away 8 ≡ lines_text (codes "history 2"
    ∷ codes "open 0"
    ∷ codes "order 0 0 https://a.com https://a.com https://a.com/"
    ∷ codes "commit 0 0 https://a.com 68747470733a2f2f612e636f6d2f => ok"
    ∷ codes "said 0 0 0 0 navigate 0 https://a.com 68747470733a2f2f622e636f6d2f => ok"
    ∷ codes "order 1 1 https://b.com https://b.com https://b.com/"
    ∷ codes "commit 1 1 https://b.com 68747470733a2f2f622e636f6d2f => ok"
    ∷ codes "exit 0"
    ∷ [])
unfolding history_on_literals
moves_away_run = refl

-- a page crashes
abbrev pub crashes : ScriptData
crashes = plain_script (codes "https://a.com/" ∷ [])
    (page_with (codes "https://a.com/") (DoCrash ∷ []) ∷ [])

pub crashes_run : run_text crashes 5 ≡ lines_text (codes "history 2"
    ∷ codes "open 0"
    ∷ codes "order 0 0 https://a.com https://a.com https://a.com/"
    ∷ codes "commit 0 0 https://a.com 68747470733a2f2f612e636f6d2f => ok"
    ∷ codes "crash 0"
    ∷ [])
unfolding history_on_literals
crashes_run = refl

-- a page opens another
abbrev pub opens : ScriptData
opens = plain_script (codes "https://a.com/" ∷ [])
    (page_with (codes "https://a.com/") (DoPage (codes "https://a.com/2") ∷ []) ∷ [])

pub opens_run : run_text opens 7 ≡ lines_text (codes "history 2"
    ∷ codes "open 0"
    ∷ codes "order 0 0 https://a.com https://a.com https://a.com/"
    ∷ codes "commit 0 0 https://a.com 68747470733a2f2f612e636f6d2f => ok"
    ∷ codes "said 0 0 0 0 page 68747470733a2f2f612e636f6d2f32 => ok"
    ∷ codes "order 1 0 https://a.com https://a.com https://a.com/2"
    ∷ codes "commit 0 1 https://a.com 68747470733a2f2f612e636f6d2f32 => ok"
    ∷ [])
unfolding history_on_literals
opens_run = refl

-- names that stand for no frame
abbrev pub skips : ScriptData
skips = plain_script (codes "https://a.com/" ∷ [])
    (page_with (codes "https://a.com/")
    (DoRemove 0
    ∷ DoNavigate Parent (codes "https://a.com/")
    ∷ DoPost Opener Any (codes "x")
    ∷ DoWait ∷ []) ∷ [])

pub skips_run : run_text skips 8 ≡ lines_text (codes "history 2"
    ∷ codes "open 0"
    ∷ codes "order 0 0 https://a.com https://a.com https://a.com/"
    ∷ codes "commit 0 0 https://a.com 68747470733a2f2f612e636f6d2f => ok"
    ∷ codes "local 0 0 0 skipped"
    ∷ codes "local 0 0 1 skipped"
    ∷ codes "local 0 0 2 skipped"
    ∷ codes "local 0 0 3 waited"
    ∷ [])
unfolding history_on_literals
skips_run = refl

-- Posts between a page and its frame.
use Rattle.std.proofs.Common.{refl}
use Rattle.std.specs.Prelude.{◌≡◌, ◌∷◌, [], codes, false}
use Rattle.history_entry.specs.declared.body.Src.TheVariants.{Url as FromUrl}
use Rattle.history_entry.specs.declared.body.Target.TheVariants.{Any, Own as OwnOrigin}
use Rattle.script_model.specs.ScriptData.{ScriptData}
use Rattle.script_model.specs.declared.action.Action.TheVariants.{Crash as DoCrash, Frame as DoFrame, Navigate as DoNavigate, Post as DoPost, Recv as DoRecv, Wait as DoWait}
use Rattle.script_model.specs.declared.action.FrameRef.TheVariants.{Child, Own, Parent}
use Rattle.history_rows.proofs.Computing.{lines_text, page_with, plain_resource, plain_script, run_text}
use Rattle.history_rows.proofs.OnLiterals.{history_on_literals}

-- a post to a frame whose process crashed
abbrev pub to_crashed : ScriptData
to_crashed = plain_script (codes "https://a.com/" ∷ [])
    (page_with (codes "https://a.com/")
    (DoFrame (FromUrl (codes "https://b.com/")) false
    ∷ DoWait
    ∷ DoPost (Child 0) Any (codes "hi") ∷ [])
    ∷ page_with (codes "https://b.com/") (DoCrash ∷ []) ∷ [])

pub to_crashed_run : run_text to_crashed 10 ≡ lines_text (codes "history 2"
    ∷ codes "open 0"
    ∷ codes "order 0 0 https://a.com https://a.com https://a.com/"
    ∷ codes "commit 0 0 https://a.com 68747470733a2f2f612e636f6d2f => ok"
    ∷ codes "said 0 0 0 0 frame plain url 68747470733a2f2f622e636f6d2f => ok"
    ∷ codes "order 1 1 https://b.com https://b.com https://b.com/"
    ∷ codes "commit 1 1 https://b.com 68747470733a2f2f622e636f6d2f => ok"
    ∷ codes "crash 1"
    ∷ codes "local 0 0 1 waited"
    ∷ codes "said 0 0 2 0 post 1 * https://a.com 6869 => drop M1"
    ∷ [])
unfolding history_on_literals
to_crashed_run = refl

-- a post for its own origin alone
abbrev pub to_other : ScriptData
to_other = plain_script (codes "https://a.com/" ∷ [])
    (page_with (codes "https://a.com/")
    (DoFrame (FromUrl (codes "https://b.com/")) false
    ∷ DoWait
    ∷ DoPost (Child 0) OwnOrigin (codes "hi") ∷ [])
    ∷ plain_resource (codes "https://b.com/") ∷ [])

pub to_other_run : run_text to_other 9 ≡ lines_text (codes "history 2"
    ∷ codes "open 0"
    ∷ codes "order 0 0 https://a.com https://a.com https://a.com/"
    ∷ codes "commit 0 0 https://a.com 68747470733a2f2f612e636f6d2f => ok"
    ∷ codes "said 0 0 0 0 frame plain url 68747470733a2f2f622e636f6d2f => ok"
    ∷ codes "order 1 1 https://b.com https://b.com https://b.com/"
    ∷ codes "commit 1 1 https://b.com 68747470733a2f2f622e636f6d2f => ok"
    ∷ codes "local 0 0 1 waited"
    ∷ codes "said 0 0 2 0 post 1 / https://a.com 6869 => drop M2"
    ∷ [])
unfolding history_on_literals
to_other_run = refl

-- two posts are taken in order
abbrev pub to_parent : ScriptData
to_parent = plain_script (codes "https://a.com/" ∷ [])
    (page_with (codes "https://a.com/") (DoFrame (FromUrl (codes "https://b.com/")) false ∷ DoRecv ∷ DoRecv ∷ [])
    ∷ page_with (codes "https://b.com/") (DoPost Parent Any (codes "one") ∷ DoPost Parent Any (codes "two") ∷ []) ∷ [])

pub to_parent_run : run_text to_parent 11 ≡ lines_text (codes "history 2"
    ∷ codes "open 0"
    ∷ codes "order 0 0 https://a.com https://a.com https://a.com/"
    ∷ codes "commit 0 0 https://a.com 68747470733a2f2f612e636f6d2f => ok"
    ∷ codes "said 0 0 0 0 frame plain url 68747470733a2f2f622e636f6d2f => ok"
    ∷ codes "order 1 1 https://b.com https://b.com https://b.com/"
    ∷ codes "commit 1 1 https://b.com 68747470733a2f2f622e636f6d2f => ok"
    ∷ codes "said 1 1 0 1 post 0 * https://b.com 6f6e65 => ok"
    ∷ codes "said 1 1 1 1 post 0 * https://b.com 74776f => ok"
    ∷ codes "local 0 0 1 took https://b.com 6f6e65"
    ∷ codes "local 0 0 2 took https://b.com 74776f"
    ∷ [])
unfolding history_on_literals
to_parent_run = refl

-- a post stays with the document that it was delivered to
abbrev pub not_to_next : ScriptData
not_to_next = plain_script (codes "https://a.com/" ∷ [])
    (page_with (codes "https://a.com/")
    (DoFrame (FromUrl (codes "https://b.com/")) false
    ∷ DoRecv
    ∷ DoPost (Child 0) Any (codes "hi") ∷ [])
    ∷ page_with (codes "https://b.com/")
    (DoPost Parent Any (codes "one")
    ∷ DoRecv
    ∷ DoNavigate Own (codes "https://b.com/2") ∷ [])
    ∷ page_with (codes "https://b.com/2") (DoRecv ∷ []) ∷ [])

pub not_to_next_run : run_text not_to_next 14 ≡ lines_text (codes "history 2"
    ∷ codes "open 0"
    ∷ codes "order 0 0 https://a.com https://a.com https://a.com/"
    ∷ codes "commit 0 0 https://a.com 68747470733a2f2f612e636f6d2f => ok"
    ∷ codes "said 0 0 0 0 frame plain url 68747470733a2f2f622e636f6d2f => ok"
    ∷ codes "order 1 1 https://b.com https://b.com https://b.com/"
    ∷ codes "commit 1 1 https://b.com 68747470733a2f2f622e636f6d2f => ok"
    ∷ codes "said 1 1 0 1 post 0 * https://b.com 6f6e65 => ok"
    ∷ codes "local 0 0 1 took https://b.com 6f6e65"
    ∷ codes "said 0 0 2 0 post 1 * https://a.com 6869 => ok"
    ∷ codes "local 1 1 1 took https://a.com 6869"
    ∷ codes "said 1 1 2 1 navigate 1 https://b.com 68747470733a2f2f622e636f6d2f32 => ok"
    ∷ codes "order 2 1 https://b.com https://b.com https://b.com/2"
    ∷ codes "commit 1 2 https://b.com 68747470733a2f2f622e636f6d2f32 => ok"
    ∷ [])
unfolding history_on_literals
not_to_next_run = refl

-- a post that was not taken is lost with its document
abbrev pub left_over : ScriptData
left_over = plain_script (codes "https://a.com/" ∷ [])
    (page_with (codes "https://a.com/")
    (DoFrame (FromUrl (codes "https://b.com/")) false
    ∷ DoRecv
    ∷ DoPost (Child 0) Any (codes "hi") ∷ [])
    ∷ page_with (codes "https://b.com/")
    (DoPost Parent Any (codes "one")
    ∷ DoWait
    ∷ DoNavigate Own (codes "https://b.com/2") ∷ [])
    ∷ page_with (codes "https://b.com/2") (DoRecv ∷ []) ∷ [])

pub left_over_run : run_text left_over 14 ≡ lines_text (codes "history 2"
    ∷ codes "open 0"
    ∷ codes "order 0 0 https://a.com https://a.com https://a.com/"
    ∷ codes "commit 0 0 https://a.com 68747470733a2f2f612e636f6d2f => ok"
    ∷ codes "said 0 0 0 0 frame plain url 68747470733a2f2f622e636f6d2f => ok"
    ∷ codes "order 1 1 https://b.com https://b.com https://b.com/"
    ∷ codes "commit 1 1 https://b.com 68747470733a2f2f622e636f6d2f => ok"
    ∷ codes "said 1 1 0 1 post 0 * https://b.com 6f6e65 => ok"
    ∷ codes "local 0 0 1 took https://b.com 6f6e65"
    ∷ codes "said 0 0 2 0 post 1 * https://a.com 6869 => ok"
    ∷ codes "local 1 1 1 waited"
    ∷ codes "said 1 1 2 1 navigate 1 https://b.com 68747470733a2f2f622e636f6d2f32 => ok"
    ∷ codes "order 2 1 https://b.com https://b.com https://b.com/2"
    ∷ codes "commit 1 2 https://b.com 68747470733a2f2f622e636f6d2f32 => ok"
    ∷ [])
unfolding history_on_literals
left_over_run = refl

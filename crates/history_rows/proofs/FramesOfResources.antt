-- Frames of a resource, and data URLs.
use Rattle.std.proofs.Common.{refl}
use Rattle.std.specs.Prelude.{◌≡◌, ◌∷◌, [], codes, false, true}
use Rattle.history_entry.specs.declared.body.Src.TheVariants.{Doc as FromDoc}
use Rattle.script_model.specs.ScriptData.{ScriptData}
use Rattle.script_model.specs.declared.action.Action.TheVariants.{Frame as DoFrame, Navigate as DoNavigate, Page as DoPage, Wait as DoWait}
use Rattle.script_model.specs.declared.action.FrameRef.TheVariants.{Own, Top}
use Rattle.history_rows.proofs.Computing.{lines_text, page_with, plain_script, run_text}
use Rattle.history_rows.proofs.OnLiterals.{history_on_literals}

-- an unsandboxed frame of a resource does its actions
abbrev pub doc_frame : ScriptData
doc_frame = plain_script (codes "https://a.com/" ∷ [])
    (page_with (codes "https://a.com/") (DoFrame (FromDoc 1) false ∷ [])
    ∷ page_with (codes "https://z.com/") (DoWait ∷ DoNavigate Top (codes "https://a.com/2") ∷ []) ∷ [])

pub doc_frame_run : run_text doc_frame 11 ≡ lines_text (codes "history 2"
    ∷ codes "open 0"
    ∷ codes "order 0 0 https://a.com https://a.com https://a.com/"
    ∷ codes "commit 0 0 https://a.com 68747470733a2f2f612e636f6d2f => ok"
    ∷ codes "said 0 0 0 0 frame plain doc 1 => ok"
    ∷ codes "order 1 0 https://a.com https://a.com about:srcdoc"
    ∷ codes "commit 0 1 https://a.com 61626f75743a737263646f63 => ok"
    ∷ codes "local 0 1 0 waited"
    ∷ codes "said 0 1 1 1 navigate 0 https://a.com 68747470733a2f2f612e636f6d2f32 => ok"
    ∷ codes "order 2 0 https://a.com https://a.com https://a.com/2"
    ∷ codes "commit 0 2 https://a.com 68747470733a2f2f612e636f6d2f32 => ok"
    ∷ [])
unfolding history_on_literals
doc_frame_run = refl

-- a sandboxed frame of a resource may not navigate its top frame
abbrev pub sandboxed_doc : ScriptData
sandboxed_doc = plain_script (codes "https://a.com/" ∷ [])
    (page_with (codes "https://a.com/") (DoFrame (FromDoc 1) true ∷ [])
    ∷ page_with (codes "https://z.com/")
    (DoNavigate Top (codes "https://a.com/2")
    ∷ DoPage (codes "https://a.com/")
    ∷ DoNavigate Own (codes "https://a.com/2") ∷ []) ∷ [])

pub sandboxed_doc_run : run_text sandboxed_doc 12 ≡ lines_text (codes "history 2"
    ∷ codes "open 0"
    ∷ codes "order 0 0 https://a.com https://a.com https://a.com/"
    ∷ codes "commit 0 0 https://a.com 68747470733a2f2f612e636f6d2f => ok"
    ∷ codes "said 0 0 0 0 frame sandboxed doc 1 => ok"
    ∷ codes "order 1 0 https://a.com opaque:1:https://a.com about:srcdoc"
    ∷ codes "commit 0 1 opaque:1:https://a.com 61626f75743a737263646f63 => ok"
    ∷ codes "said 0 1 0 1 navigate 0 opaque:1:https://a.com 68747470733a2f2f612e636f6d2f32 => deny N1"
    ∷ codes "said 0 1 1 1 page 68747470733a2f2f612e636f6d2f => deny N9"
    ∷ codes "said 0 1 2 1 navigate 1 opaque:1:https://a.com 68747470733a2f2f612e636f6d2f32 => ok"
    ∷ codes "order 2 0 https://a.com opaque:2:https://a.com https://a.com/2"
    ∷ codes "commit 0 2 opaque:2:https://a.com 68747470733a2f2f612e636f6d2f32 => ok"
    ∷ [])
unfolding history_on_literals
sandboxed_doc_run = refl

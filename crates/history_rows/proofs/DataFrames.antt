-- A frame of a `data:` URL has a new opaque origin of its adder's site, one of `about:blank` its adder's own.
use Rattle.std.proofs.Common.{refl}
use Rattle.std.specs.Prelude.{◌≡◌, ◌∷◌, [], codes, false}
use Rattle.history_entry.specs.declared.body.Src.TheVariants.{Url as FromUrl}
use Rattle.script_model.specs.ResourceData.{ResourceData}
use Rattle.script_model.specs.ScriptData.{ScriptData}
use Rattle.script_model.specs.declared.action.Action.TheVariants.{Frame as DoFrame}
use Rattle.history_rows.proofs.Computing.{lines_text, page_with, plain_script, run_text}
use Rattle.history_rows.proofs.OnLiterals.{history_on_literals}

abbrev pub adding_page : ResourceData
adding_page = page_with (codes "https://a.com/")
    (DoFrame (FromUrl (codes "data:,x")) false
    ∷ DoFrame (FromUrl (codes "about:blank")) false ∷ [])

abbrev pub added_frames : ScriptData
added_frames = plain_script (codes "https://a.com/" ∷ []) (adding_page ∷ [])

pub added_frames_run : run_text added_frames 11 ≡ lines_text (codes "history 2"
    ∷ codes "open 0"
    ∷ codes "order 0 0 https://a.com https://a.com https://a.com/"
    ∷ codes "commit 0 0 https://a.com 68747470733a2f2f612e636f6d2f => ok"
    ∷ codes "said 0 0 0 0 frame plain url 646174613a2c78 => ok"
    ∷ codes "order 1 0 https://a.com opaque:1:https://a.com data:,x"
    ∷ codes "said 0 0 1 0 frame plain url 61626f75743a626c616e6b => ok"
    ∷ codes "order 2 0 https://a.com https://a.com about:blank"
    ∷ codes "commit 0 1 opaque:1:https://a.com 646174613a2c78 => ok"
    ∷ codes "commit 0 2 https://a.com 61626f75743a626c616e6b => ok"
    ∷ [])
unfolding history_on_literals
added_frames_run = refl

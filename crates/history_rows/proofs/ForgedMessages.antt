-- Forged messages kill their process.
use Rattle.std.proofs.Common.{refl}
use Rattle.std.specs.Prelude.{◌≡◌, ◌∷◌, [], None, Some, codes, false}
use Rattle.history_entry.specs.declared.body.Mode.TheVariants.{Cors as InCors}
use Rattle.history_entry.specs.declared.body.Src.TheVariants.{Url as FromUrl}
use Rattle.history_entry.specs.declared.body.Target.TheVariants.{Any}
use Rattle.script_model.specs.ScriptData.{ScriptData}
use Rattle.script_model.specs.declared.action.Action.TheVariants.{Frame as DoFrame, Raw as DoRaw}
use Rattle.script_model.specs.declared.action.RawBody.TheVariants.{Ask as RawAsk, Commit as RawCommit, Fetch as RawFetch, Navigate as RawNavigate, Post as RawPost, Remove as RawRemove}
use Rattle.history_rows.proofs.Computing.{forged, https, lines_text, page_with, plain_script, run_text}
use Rattle.history_rows.proofs.OnLiterals.{history_on_literals}

-- a document that the process never had
abbrev pub k1 : ScriptData
k1 = plain_script (codes "https://a.com/" ∷ [])
    (page_with (codes "https://a.com/") (DoRaw (record { document = (Some 7); body = RawRemove 1 }) ∷ []) ∷ [])

pub k1_run : run_text k1 5 ≡ lines_text (codes "history 2"
    ∷ codes "open 0"
    ∷ codes "order 0 0 https://a.com https://a.com https://a.com/"
    ∷ codes "commit 0 0 https://a.com 68747470733a2f2f612e636f6d2f => ok"
    ∷ codes "said 0 0 0 7 remove 1 => kill K1"
    ∷ [])
unfolding history_on_literals
k1_run = refl

-- an initiator of another site
abbrev pub k2 : ScriptData
k2 = plain_script (codes "https://a.com/" ∷ [])
    (page_with (codes "https://a.com/") (forged (RawNavigate 0 (codes "https://a.com/2") (Some (https (codes "b.com")))) ∷ []) ∷ [])

pub k2_run : run_text k2 5 ≡ lines_text (codes "history 2"
    ∷ codes "open 0"
    ∷ codes "order 0 0 https://a.com https://a.com https://a.com/"
    ∷ codes "commit 0 0 https://a.com 68747470733a2f2f612e636f6d2f => ok"
    ∷ codes "said 0 0 0 0 navigate 0 https://b.com 68747470733a2f2f612e636f6d2f32 => kill K2"
    ∷ [])
unfolding history_on_literals
k2_run = refl

-- a fetch for another origin
abbrev pub k3 : ScriptData
k3 = plain_script (codes "https://a.com/" ∷ [])
    (page_with (codes "https://a.com/") (forged (RawFetch (codes "https://a.com/2") InCors (Some (https (codes "b.com")))) ∷ []) ∷ [])

pub k3_run : run_text k3 5 ≡ lines_text (codes "history 2"
    ∷ codes "open 0"
    ∷ codes "order 0 0 https://a.com https://a.com https://a.com/"
    ∷ codes "commit 0 0 https://a.com 68747470733a2f2f612e636f6d2f => ok"
    ∷ codes "said 0 0 0 0 fetch cors https://b.com 68747470733a2f2f612e636f6d2f32 => kill K3"
    ∷ [])
unfolding history_on_literals
k3_run = refl

-- a frame of no group
abbrev pub k4 : ScriptData
k4 = plain_script (codes "https://a.com/" ∷ [])
    (page_with (codes "https://a.com/") (forged (RawNavigate 9 (codes "https://a.com/2") None) ∷ []) ∷ [])

pub k4_run : run_text k4 5 ≡ lines_text (codes "history 2"
    ∷ codes "open 0"
    ∷ codes "order 0 0 https://a.com https://a.com https://a.com/"
    ∷ codes "commit 0 0 https://a.com 68747470733a2f2f612e636f6d2f => ok"
    ∷ codes "said 0 0 0 0 navigate 9 https://a.com 68747470733a2f2f612e636f6d2f32 => kill K4"
    ∷ [])
unfolding history_on_literals
k4_run = refl

-- the removal of its own frame
abbrev pub k5 : ScriptData
k5 = plain_script (codes "https://a.com/" ∷ [])
    (page_with (codes "https://a.com/") (forged (RawRemove 0) ∷ []) ∷ [])

pub k5_run : run_text k5 5 ≡ lines_text (codes "history 2"
    ∷ codes "open 0"
    ∷ codes "order 0 0 https://a.com https://a.com https://a.com/"
    ∷ codes "commit 0 0 https://a.com 68747470733a2f2f612e636f6d2f => ok"
    ∷ codes "said 0 0 0 0 remove 0 => kill K5"
    ∷ [])
unfolding history_on_literals
k5_run = refl

-- a post with another source
abbrev pub k6 : ScriptData
k6 = plain_script (codes "https://a.com/" ∷ [])
    (page_with (codes "https://a.com/") (forged (RawPost 0 Any (Some (https (codes "b.com"))) (codes "x")) ∷ []) ∷ [])

pub k6_run : run_text k6 5 ≡ lines_text (codes "history 2"
    ∷ codes "open 0"
    ∷ codes "order 0 0 https://a.com https://a.com https://a.com/"
    ∷ codes "commit 0 0 https://a.com 68747470733a2f2f612e636f6d2f => ok"
    ∷ codes "said 0 0 0 0 post 0 * https://b.com 78 => kill K6"
    ∷ [])
unfolding history_on_literals
k6_run = refl

-- an ask for another site
abbrev pub k7 : ScriptData
k7 = plain_script (codes "https://a.com/" ∷ [])
    (page_with (codes "https://a.com/") (forged (RawAsk (codes "store") (Some (https (codes "b.com"))) (codes "get k")) ∷ []) ∷ [])

pub k7_run : run_text k7 5 ≡ lines_text (codes "history 2"
    ∷ codes "open 0"
    ∷ codes "order 0 0 https://a.com https://a.com https://a.com/"
    ∷ codes "commit 0 0 https://a.com 68747470733a2f2f612e636f6d2f => ok"
    ∷ codes "said 0 0 0 0 ask 73746f7265 https://b.com 676574206b => kill K7"
    ∷ [])
unfolding history_on_literals
k7_run = refl

-- a commit that was never ordered
abbrev pub k8 : ScriptData
k8 = plain_script (codes "https://a.com/" ∷ [])
    (page_with (codes "https://a.com/") (forged (RawCommit 5 (codes "https://a.com/") (https (codes "a.com"))) ∷ []) ∷ [])

pub k8_run : run_text k8 5 ≡ lines_text (codes "history 2"
    ∷ codes "open 0"
    ∷ codes "order 0 0 https://a.com https://a.com https://a.com/"
    ∷ codes "commit 0 0 https://a.com 68747470733a2f2f612e636f6d2f => ok"
    ∷ codes "said 0 0 0 0 commit 5 https://a.com 68747470733a2f2f612e636f6d2f => kill K8"
    ∷ [])
unfolding history_on_literals
k8_run = refl

-- an ask for another origin of the same site
abbrev pub other_port : ScriptData
other_port = plain_script (codes "https://a.com/" ∷ [])
    (page_with (codes "https://a.com/") (forged (RawAsk (codes "store") (Some (https (codes "sub.a.com"))) (codes "get k")) ∷ []) ∷ [])

pub other_port_run : run_text other_port 5 ≡ lines_text (codes "history 2"
    ∷ codes "open 0"
    ∷ codes "order 0 0 https://a.com https://a.com https://a.com/"
    ∷ codes "commit 0 0 https://a.com 68747470733a2f2f612e636f6d2f => ok"
    ∷ codes "said 0 0 0 0 ask 73746f7265 https://sub.a.com 676574206b => answer 6e6f6e65"
    ∷ [])
unfolding history_on_literals
other_port_run = refl

-- a claimed initiator of the own site is taken
abbrev pub claimed : ScriptData
claimed = plain_script (codes "https://a.com/" ∷ [])
    (page_with (codes "https://a.com/")
    (DoFrame (FromUrl (codes "https://a.com/f")) false
    ∷ forged (RawNavigate 1 (codes "about:blank") (Some (https (codes "sub.a.com")))) ∷ []) ∷ [])

pub claimed_run : run_text claimed 10 ≡ lines_text (codes "history 2"
    ∷ codes "open 0"
    ∷ codes "order 0 0 https://a.com https://a.com https://a.com/"
    ∷ codes "commit 0 0 https://a.com 68747470733a2f2f612e636f6d2f => ok"
    ∷ codes "said 0 0 0 0 frame plain url 68747470733a2f2f612e636f6d2f66 => ok"
    ∷ codes "order 1 0 https://a.com https://a.com https://a.com/f"
    ∷ codes "said 0 0 1 0 navigate 1 https://sub.a.com 61626f75743a626c616e6b => ok"
    ∷ codes "order 2 0 https://a.com https://sub.a.com about:blank"
    ∷ codes "commit 0 1 https://a.com 68747470733a2f2f612e636f6d2f66 => drop G3"
    ∷ codes "commit 0 2 https://sub.a.com 61626f75743a626c616e6b => ok"
    ∷ [])
unfolding history_on_literals
claimed_run = refl

-- Requests to the store.
use Rattle.std.proofs.Common.{refl}
use Rattle.std.specs.Prelude.{◌≡◌, ◌∷◌, [], codes}
use Rattle.script_model.specs.ScriptData.{ScriptData}
use Rattle.script_model.specs.declared.action.Action.TheVariants.{Ask as DoAsk}
use Rattle.history_rows.proofs.Computing.{lines_text, page_with, plain_script, run_text}
use Rattle.history_rows.proofs.OnLiterals.{history_on_literals}

-- set, get and remove
abbrev pub keys : ScriptData
keys = plain_script (codes "https://a.com/" ∷ [])
    (page_with (codes "https://a.com/")
    (DoAsk (codes "store") (codes "get k")
    ∷ DoAsk (codes "store") (codes "set k v w")
    ∷ DoAsk (codes "store") (codes "get k")
    ∷ DoAsk (codes "store") (codes "set k ")
    ∷ DoAsk (codes "store") (codes "get k")
    ∷ DoAsk (codes "store") (codes "remove k")
    ∷ DoAsk (codes "store") (codes "remove k")
    ∷ DoAsk (codes "store") (codes "set k")
    ∷ DoAsk (codes "other") (codes "get k") ∷ []) ∷ [])

pub keys_run : run_text keys 13 ≡ lines_text (codes "history 2"
    ∷ codes "open 0"
    ∷ codes "order 0 0 https://a.com https://a.com https://a.com/"
    ∷ codes "commit 0 0 https://a.com 68747470733a2f2f612e636f6d2f => ok"
    ∷ codes "said 0 0 0 0 ask 73746f7265 https://a.com 676574206b => answer 6e6f6e65"
    ∷ codes "said 0 0 1 0 ask 73746f7265 https://a.com 736574206b20762077 => answer 646f6e65"
    ∷ codes "said 0 0 2 0 ask 73746f7265 https://a.com 676574206b => answer 736f6d6520762077"
    ∷ codes "said 0 0 3 0 ask 73746f7265 https://a.com 736574206b20 => answer 646f6e65"
    ∷ codes "said 0 0 4 0 ask 73746f7265 https://a.com 676574206b => answer 736f6d6520"
    ∷ codes "said 0 0 5 0 ask 73746f7265 https://a.com 72656d6f7665206b => answer 646f6e65"
    ∷ codes "said 0 0 6 0 ask 73746f7265 https://a.com 72656d6f7665206b => answer 6e6f6e65"
    ∷ codes "said 0 0 7 0 ask 73746f7265 https://a.com 736574206b => deny S4"
    ∷ codes "said 0 0 8 0 ask 6f74686572 https://a.com 676574206b => deny S3"
    ∷ [])
unfolding history_on_literals
keys_run = refl

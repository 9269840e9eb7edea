-- One start page, alone and with a spare process.
use Rattle.std.proofs.Common.{refl}
use Rattle.std.specs.Prelude.{◌≡◌, ◌∷◌, [], codes, true}
use Rattle.script_model.specs.ScriptData.{ScriptData}
use Rattle.history_rows.proofs.Computing.{lines_text, plain_resource, plain_script, run_text}
use Rattle.history_rows.proofs.OnLiterals.{history_on_literals}

-- one start page
abbrev pub one_page : ScriptData
one_page = plain_script (codes "https://a.com/" ∷ [])
    (plain_resource (codes "https://a.com/") ∷ [])

pub one_page_run : run_text one_page 4 ≡ lines_text (codes "history 2"
    ∷ codes "open 0"
    ∷ codes "order 0 0 https://a.com https://a.com https://a.com/"
    ∷ codes "commit 0 0 https://a.com 68747470733a2f2f612e636f6d2f => ok"
    ∷ [])
unfolding history_on_literals
one_page_run = refl

-- with a spare process
abbrev pub spare_page : ScriptData
spare_page = record (plain_script (codes "https://a.com/" ∷ [])
    (plain_resource (codes "https://a.com/") ∷ [])) { spare = true }

pub spare_page_run : run_text spare_page 6 ≡ lines_text (codes "history 2"
    ∷ codes "open 0"
    ∷ codes "warm 0"
    ∷ codes "order 0 0 https://a.com https://a.com https://a.com/"
    ∷ codes "warm 1"
    ∷ codes "commit 0 0 https://a.com 68747470733a2f2f612e636f6d2f => ok"
    ∷ [])
unfolding history_on_literals
spare_page_run = refl

-- no start page
abbrev pub no_page : ScriptData
no_page = plain_script [] []

pub no_page_run : run_text no_page 1 ≡ lines_text (codes "history 2" ∷ [])
unfolding history_on_literals
no_page_run = refl

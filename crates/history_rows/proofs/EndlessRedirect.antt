-- A redirect to itself is followed twenty times.
use Rattle.std.proofs.Common.{refl}
use Rattle.std.specs.Prelude.{◌≡◌, ◌∷◌, [], codes}
use Rattle.script_model.specs.ResourceData.{ResourceData}
use Rattle.script_model.specs.ScriptData.{ScriptData}
use Rattle.history_rows.proofs.Computing.{lines_text, plain_script, redirect, run_text}
use Rattle.history_rows.proofs.OnLiterals.{history_on_literals}

-- a redirect to itself
abbrev pub to_itself_0 : ResourceData
to_itself_0 = redirect (codes "https://a.com/r") 302 (codes "https://a.com/r")

abbrev pub to_itself : ScriptData
to_itself = plain_script (codes "https://a.com/r" ∷ []) (to_itself_0 ∷ [])

pub to_itself_run : run_text to_itself 23 ≡ lines_text (codes "history 2"
    ∷ codes "open 0"
    ∷ codes "hop nav 0 https://a.com/r"
    ∷ codes "hop nav 0 https://a.com/r"
    ∷ codes "hop nav 0 https://a.com/r"
    ∷ codes "hop nav 0 https://a.com/r"
    ∷ codes "hop nav 0 https://a.com/r"
    ∷ codes "hop nav 0 https://a.com/r"
    ∷ codes "hop nav 0 https://a.com/r"
    ∷ codes "hop nav 0 https://a.com/r"
    ∷ codes "hop nav 0 https://a.com/r"
    ∷ codes "hop nav 0 https://a.com/r"
    ∷ codes "hop nav 0 https://a.com/r"
    ∷ codes "hop nav 0 https://a.com/r"
    ∷ codes "hop nav 0 https://a.com/r"
    ∷ codes "hop nav 0 https://a.com/r"
    ∷ codes "hop nav 0 https://a.com/r"
    ∷ codes "hop nav 0 https://a.com/r"
    ∷ codes "hop nav 0 https://a.com/r"
    ∷ codes "hop nav 0 https://a.com/r"
    ∷ codes "hop nav 0 https://a.com/r"
    ∷ codes "hop nav 0 https://a.com/r"
    ∷ codes "navend 0 N5"
    ∷ [])
unfolding history_on_literals
to_itself_run = refl

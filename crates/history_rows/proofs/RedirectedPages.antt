-- Start pages that are redirected, or that commit nothing.
use Rattle.std.proofs.Common.{refl}
use Rattle.std.specs.Prelude.{◌≡◌, ◌∷◌, [], Some, codes}
use Rattle.script_model.specs.ScriptData.{ScriptData}
use Rattle.history_rows.proofs.Computing.{answer_with, lines_text, plain_resource, plain_script, redirect, run_text}
use Rattle.history_rows.proofs.OnLiterals.{history_on_literals}

-- a redirect to another site
abbrev pub redirected : ScriptData
redirected = plain_script (codes "https://a.com/r" ∷ [])
    (redirect (codes "https://a.com/r") 302 (codes "https://b.com/") ∷ [])

pub redirected_run : run_text redirected 5 ≡ lines_text (codes "history 2"
    ∷ codes "open 0"
    ∷ codes "hop nav 0 https://b.com/"
    ∷ codes "order 0 0 https://b.com https://b.com https://b.com/"
    ∷ codes "commit 0 0 https://b.com 68747470733a2f2f622e636f6d2f => ok"
    ∷ [])
unfolding history_on_literals
redirected_run = refl

-- status 204
abbrev pub no_content : ScriptData
no_content = plain_script (codes "https://a.com/r" ∷ [])
    (answer_with (codes "https://a.com/r") 204 [] ∷ [])

pub no_content_run : run_text no_content 3 ≡ lines_text (codes "history 2"
    ∷ codes "open 0"
    ∷ codes "navend 0 N8"
    ∷ [])
unfolding history_on_literals
no_content_run = refl

-- a wire that fails at once
abbrev pub fails_first : ScriptData
fails_first = plain_script (codes "https://a.com/r" ∷ [])
    (record (plain_resource (codes "https://a.com/r")) { fail_after = Some 0 } ∷ [])

pub fails_first_run : run_text fails_first 3 ≡ lines_text (codes "history 2"
    ∷ codes "open 0"
    ∷ codes "navend 0 N7"
    ∷ [])
unfolding history_on_literals
fails_first_run = refl

-- a redirect to a data URL
abbrev pub to_data : ScriptData
to_data = plain_script (codes "https://a.com/r" ∷ [])
    (redirect (codes "https://a.com/r") 301 (codes "data:,x") ∷ [])

pub to_data_run : run_text to_data 3 ≡ lines_text (codes "history 2"
    ∷ codes "open 0"
    ∷ codes "navend 0 N3"
    ∷ [])
unfolding history_on_literals
to_data_run = refl

-- a redirect that does not join
abbrev pub to_bad : ScriptData
to_bad = plain_script (codes "https://a.com/r" ∷ [])
    (redirect (codes "https://a.com/r") 301 (codes "https://[/") ∷ [])

pub to_bad_run : run_text to_bad 3 ≡ lines_text (codes "history 2"
    ∷ codes "open 0"
    ∷ codes "navend 0 N2"
    ∷ [])
unfolding history_on_literals
to_bad_run = refl

-- A fetch that is redirected to itself.
use Rattle.std.proofs.Common.{refl}
use Rattle.std.specs.Prelude.{◌≡◌, ◌∷◌, [], codes}
use Rattle.history_entry.specs.declared.body.Mode.TheVariants.{NoCors}
use Rattle.script_model.specs.ResourceData.{ResourceData}
use Rattle.script_model.specs.ScriptData.{ScriptData}
use Rattle.script_model.specs.declared.action.Action.TheVariants.{Fetch as DoFetch}
use Rattle.history_rows.proofs.Computing.{lines_text, page_with, plain_script, redirect, run_text}
use Rattle.history_rows.proofs.OnLiterals.{history_on_literals}

-- twenty redirects are followed
abbrev pub to_itself_0 : ResourceData
to_itself_0 = page_with (codes "https://a.com/") (DoFetch (codes "https://b.com/l") NoCors ∷ [])

abbrev pub to_itself : ScriptData
to_itself = plain_script (codes "https://a.com/" ∷ []) (to_itself_0
    ∷ redirect (codes "https://b.com/l") 302 (codes "/l") ∷ [])

pub to_itself_run : run_text to_itself 26 ≡ lines_text (codes "history 2"
    ∷ codes "open 0"
    ∷ codes "order 0 0 https://a.com https://a.com https://a.com/"
    ∷ codes "commit 0 0 https://a.com 68747470733a2f2f612e636f6d2f => ok"
    ∷ codes "said 0 0 0 0 fetch no-cors https://a.com 68747470733a2f2f622e636f6d2f6c => ok"
    ∷ codes "hop req 0 https://b.com/l"
    ∷ codes "hop req 0 https://b.com/l"
    ∷ codes "hop req 0 https://b.com/l"
    ∷ codes "hop req 0 https://b.com/l"
    ∷ codes "hop req 0 https://b.com/l"
    ∷ codes "hop req 0 https://b.com/l"
    ∷ codes "hop req 0 https://b.com/l"
    ∷ codes "hop req 0 https://b.com/l"
    ∷ codes "hop req 0 https://b.com/l"
    ∷ codes "hop req 0 https://b.com/l"
    ∷ codes "hop req 0 https://b.com/l"
    ∷ codes "hop req 0 https://b.com/l"
    ∷ codes "hop req 0 https://b.com/l"
    ∷ codes "hop req 0 https://b.com/l"
    ∷ codes "hop req 0 https://b.com/l"
    ∷ codes "hop req 0 https://b.com/l"
    ∷ codes "hop req 0 https://b.com/l"
    ∷ codes "hop req 0 https://b.com/l"
    ∷ codes "hop req 0 https://b.com/l"
    ∷ codes "hop req 0 https://b.com/l"
    ∷ codes "end 0 failed N5"
    ∷ [])
unfolding history_on_literals
to_itself_run = refl

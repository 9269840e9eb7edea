-- Isolated origins: each is a site of its own, and so has processes of its own.
use Rattle.std.proofs.Common.{refl}
use Rattle.std.specs.Prelude.{◌≡◌, ◌∷◌, [], List, Some, codes, false, true, ℕ}
use Rattle.page_origin.specs.declared.origin.TupleOrigin.{TupleOrigin}
use Rattle.page_origin.specs.declared.site.Scheme.TheVariants.{Https}
use Rattle.history_entry.specs.declared.body.Mode.TheVariants.{NoCors}
use Rattle.history_entry.specs.declared.body.Src.TheVariants.{Url as FromUrl}
use Rattle.script_model.specs.ScriptData.{ScriptData}
use Rattle.script_model.specs.declared.action.Action.{Action}
use Rattle.script_model.specs.declared.action.Action.TheVariants.{Fetch as DoFetch, Frame as DoFrame}
use Rattle.script_model.specs.declared.action.RawBody.TheVariants.{Ask as RawAsk}
use Rattle.history_rows.proofs.Computing.{forged, lines_text, page_with, plain_resource, plain_script, run_text, typed}
use Rattle.history_rows.proofs.OnLiterals.{history_on_literals}

-- `https://pay.a.com` with a port
abbrev pub pay : ℕ → TupleOrigin
pay port = record { scheme = Https; host = codes "pay.a.com"; port = port }

-- a page `https://a.com/` that does this
abbrev pub page_doing : List Action → ScriptData
page_doing actions = plain_script (codes "https://a.com/" ∷ [])
    (page_with (codes "https://a.com/") actions
    ∷ plain_resource (codes "https://pay.a.com/f")
    ∷ typed (codes "https://pay.a.com/x") (codes "text/html") (codes "<p") ∷ [])

-- the same page, where `https://pay.a.com` is isolated at its default port, or at another one
abbrev pub isolated_at : ℕ → List Action → ScriptData
isolated_at port actions = record (page_doing actions) { rules = record { suffixes = []; isolated = pay port ∷ [] } }

abbrev pub adds_frame : List Action
adds_frame = DoFrame (FromUrl (codes "https://pay.a.com/f")) false ∷ []

-- a frame of an isolated origin has a process of its own
pub isolated_frame_run : run_text (isolated_at 443 adds_frame) 9 ≡ lines_text (codes "history 2"
    ∷ codes "open 0"
    ∷ codes "order 0 0 https://a.com https://a.com https://a.com/"
    ∷ codes "commit 0 0 https://a.com 68747470733a2f2f612e636f6d2f => ok"
    ∷ codes "said 0 0 0 0 frame plain url 68747470733a2f2f7061792e612e636f6d2f66 => ok"
    ∷ codes "order 1 1 =https://pay.a.com https://pay.a.com https://pay.a.com/f"
    ∷ codes "commit 1 1 https://pay.a.com 68747470733a2f2f7061792e612e636f6d2f66 => ok"
    ∷ [])
unfolding history_on_literals
isolated_frame_run = refl

-- without isolation it is in the page's process
pub shared_frame_run : run_text (page_doing adds_frame) 9 ≡ lines_text (codes "history 2"
    ∷ codes "open 0"
    ∷ codes "order 0 0 https://a.com https://a.com https://a.com/"
    ∷ codes "commit 0 0 https://a.com 68747470733a2f2f612e636f6d2f => ok"
    ∷ codes "said 0 0 0 0 frame plain url 68747470733a2f2f7061792e612e636f6d2f66 => ok"
    ∷ codes "order 1 0 https://a.com https://pay.a.com https://pay.a.com/f"
    ∷ codes "commit 0 1 https://pay.a.com 68747470733a2f2f7061792e612e636f6d2f66 => ok"
    ∷ [])
unfolding history_on_literals
shared_frame_run = refl

-- another port is another origin, and is not isolated
pub other_port_run : run_text (isolated_at 8443 adds_frame) 9 ≡ lines_text (codes "history 2"
    ∷ codes "open 0"
    ∷ codes "order 0 0 https://a.com https://a.com https://a.com/"
    ∷ codes "commit 0 0 https://a.com 68747470733a2f2f612e636f6d2f => ok"
    ∷ codes "said 0 0 0 0 frame plain url 68747470733a2f2f7061792e612e636f6d2f66 => ok"
    ∷ codes "order 1 0 https://a.com https://pay.a.com https://pay.a.com/f"
    ∷ codes "commit 0 1 https://pay.a.com 68747470733a2f2f7061792e612e636f6d2f66 => ok"
    ∷ [])
unfolding history_on_literals
other_port_run = refl

-- a sandboxed frame of an isolated origin is in that site, by its precursor
pub sandboxed_frame_run : run_text (isolated_at 443 (DoFrame (FromUrl (codes "https://pay.a.com/f")) true ∷ [])) 9 ≡ lines_text (codes "history 2"
    ∷ codes "open 0"
    ∷ codes "order 0 0 https://a.com https://a.com https://a.com/"
    ∷ codes "commit 0 0 https://a.com 68747470733a2f2f612e636f6d2f => ok"
    ∷ codes "said 0 0 0 0 frame sandboxed url 68747470733a2f2f7061792e612e636f6d2f66 => ok"
    ∷ codes "order 1 1 =https://pay.a.com opaque:1:=https://pay.a.com https://pay.a.com/f"
    ∷ codes "commit 1 1 opaque:1:=https://pay.a.com 68747470733a2f2f7061792e612e636f6d2f66 => ok"
    ∷ [])
unfolding history_on_literals
sandboxed_frame_run = refl

-- a process of `https://a.com` may not ask as the isolated origin
abbrev pub asks_as_pay : List Action
asks_as_pay = forged (RawAsk (codes "store") (Some (pay 443)) (codes "get k")) ∷ []

pub isolated_ask_run : run_text (isolated_at 443 asks_as_pay) 9 ≡ lines_text (codes "history 2"
    ∷ codes "open 0"
    ∷ codes "order 0 0 https://a.com https://a.com https://a.com/"
    ∷ codes "commit 0 0 https://a.com 68747470733a2f2f612e636f6d2f => ok"
    ∷ codes "said 0 0 0 0 ask 73746f7265 https://pay.a.com 676574206b => kill K7"
    ∷ [])
unfolding history_on_literals
isolated_ask_run = refl

-- nor read from there
abbrev pub fetches_pay : List Action
fetches_pay = DoFetch (codes "https://pay.a.com/x") NoCors ∷ []

pub isolated_fetch_run : run_text (isolated_at 443 fetches_pay) 9 ≡ lines_text (codes "history 2"
    ∷ codes "open 0"
    ∷ codes "order 0 0 https://a.com https://a.com https://a.com/"
    ∷ codes "commit 0 0 https://a.com 68747470733a2f2f612e636f6d2f => ok"
    ∷ codes "said 0 0 0 0 fetch no-cors https://a.com 68747470733a2f2f7061792e612e636f6d2f78 => ok"
    ∷ codes "end 0 blocked B4"
    ∷ [])
unfolding history_on_literals
isolated_fetch_run = refl

-- without isolation it is of the page's own site
pub shared_fetch_run : run_text (page_doing fetches_pay) 9 ≡ lines_text (codes "history 2"
    ∷ codes "open 0"
    ∷ codes "order 0 0 https://a.com https://a.com https://a.com/"
    ∷ codes "commit 0 0 https://a.com 68747470733a2f2f612e636f6d2f => ok"
    ∷ codes "said 0 0 0 0 fetch no-cors https://a.com 68747470733a2f2f7061792e612e636f6d2f78 => ok"
    ∷ codes "head 0 A3"
    ∷ codes "piece 0 0 3c70"
    ∷ codes "end 0 whole"
    ∷ [])
unfolding history_on_literals
shared_fetch_run = refl

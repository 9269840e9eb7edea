-- Messages that are denied or dropped.
use Rattle.std.proofs.Common.{refl}
use Rattle.std.specs.Prelude.{◌≡◌, ◌∷◌, [], Some, codes, false}
use Rattle.history_entry.specs.declared.body.Mode.TheVariants.{Cors as InCors}
use Rattle.history_entry.specs.declared.body.Src.TheVariants.{Url as FromUrl}
use Rattle.script_model.specs.ScriptData.{ScriptData}
use Rattle.script_model.specs.declared.action.Action.TheVariants.{Fetch as DoFetch, Frame as DoFrame, Navigate as DoNavigate, Page as DoPage, Raw as DoRaw, Wait as DoWait}
use Rattle.script_model.specs.declared.action.FrameRef.TheVariants.{Own}
use Rattle.script_model.specs.declared.action.RawBody.TheVariants.{Page as RawPage}
use Rattle.history_rows.proofs.Computing.{lines_text, page_with, plain_script, run_text}
use Rattle.history_rows.proofs.OnLiterals.{history_on_literals}

-- URLs that are none, or of another class
abbrev pub bad_urls : ScriptData
bad_urls = plain_script (codes "https://a.com/" ∷ [])
    (page_with (codes "https://a.com/")
    (DoFrame (FromUrl (codes "https://[")) false
    ∷ DoFrame (FromUrl (codes "ftp://a.com/")) false
    ∷ DoFrame (FromUrl (codes "about:srcdoc")) false
    ∷ DoPage (codes "no")
    ∷ DoFetch (codes "about:blank") InCors
    ∷ DoFetch (codes "no") InCors ∷ []) ∷ [])

pub bad_urls_run : run_text bad_urls 10 ≡ lines_text (codes "history 2"
    ∷ codes "open 0"
    ∷ codes "order 0 0 https://a.com https://a.com https://a.com/"
    ∷ codes "commit 0 0 https://a.com 68747470733a2f2f612e636f6d2f => ok"
    ∷ codes "said 0 0 0 0 frame plain url 68747470733a2f2f5b => deny N2"
    ∷ codes "said 0 0 1 0 frame plain url 6674703a2f2f612e636f6d2f => deny N3"
    ∷ codes "said 0 0 2 0 frame plain url 61626f75743a737263646f63 => deny N3"
    ∷ codes "said 0 0 3 0 page 6e6f => deny N2"
    ∷ codes "said 0 0 4 0 fetch cors https://a.com 61626f75743a626c616e6b => deny F1"
    ∷ codes "said 0 0 5 0 fetch cors https://a.com 6e6f => deny F1"
    ∷ [])
unfolding history_on_literals
bad_urls_run = refl

-- a message in the name of a document that was replaced
abbrev pub own_doc : ScriptData
own_doc = plain_script (codes "https://a.com/" ∷ [])
    (page_with (codes "https://a.com/") (DoFrame (FromUrl (codes "https://a.com/f")) false ∷ DoWait ∷ [])
    ∷ page_with (codes "https://a.com/f") (DoNavigate Own (codes "https://a.com/2") ∷ [])
    ∷ page_with (codes "https://a.com/2") (DoRaw (record { document = (Some 1); body = RawPage (codes "https://a.com/") }) ∷ []) ∷ [])

pub own_doc_run : run_text own_doc 12 ≡ lines_text (codes "history 2"
    ∷ codes "open 0"
    ∷ codes "order 0 0 https://a.com https://a.com https://a.com/"
    ∷ codes "commit 0 0 https://a.com 68747470733a2f2f612e636f6d2f => ok"
    ∷ codes "said 0 0 0 0 frame plain url 68747470733a2f2f612e636f6d2f66 => ok"
    ∷ codes "order 1 0 https://a.com https://a.com https://a.com/f"
    ∷ codes "commit 0 1 https://a.com 68747470733a2f2f612e636f6d2f66 => ok"
    ∷ codes "said 0 1 0 1 navigate 1 https://a.com 68747470733a2f2f612e636f6d2f32 => ok"
    ∷ codes "order 2 0 https://a.com https://a.com https://a.com/2"
    ∷ codes "commit 0 2 https://a.com 68747470733a2f2f612e636f6d2f32 => ok"
    ∷ codes "said 0 2 0 1 page 68747470733a2f2f612e636f6d2f => drop G1"
    ∷ codes "local 0 0 1 waited"
    ∷ [])
unfolding history_on_literals
own_doc_run = refl

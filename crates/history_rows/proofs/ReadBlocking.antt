-- Responses that read blocking lets through or not.
use Rattle.std.proofs.Common.{refl}
use Rattle.std.specs.Prelude.{◌≡◌, ◌∷◌, [], codes}
use Rattle.history_entry.specs.declared.body.Mode.TheVariants.{NoCors}
use Rattle.script_model.specs.ScriptData.{ScriptData}
use Rattle.script_model.specs.declared.action.Action.TheVariants.{Fetch as DoFetch}
use Rattle.history_rows.proofs.Computing.{answer_with, lines_text, page_with, plain_script, run_text, typed}
use Rattle.history_rows.proofs.OnLiterals.{history_on_literals}

-- HTML in pieces
abbrev pub in_pieces : ScriptData
in_pieces = plain_script (codes "https://a.com/" ∷ [])
    (page_with (codes "https://a.com/") (DoFetch (codes "https://b.com/x") NoCors ∷ [])
    ∷ record (typed (codes "https://b.com/x") (codes "text/html") (codes "<!-- x --><hTmL")) { cuts = 1 ∷ 2 ∷ 3 ∷ 4 ∷ 5 ∷ 6 ∷ 7 ∷ 8 ∷ 9 ∷ 10 ∷ 11 ∷ 12 ∷ 13 ∷ 14 ∷ [] } ∷ [])

pub in_pieces_run : run_text in_pieces 6 ≡ lines_text (codes "history 2"
    ∷ codes "open 0"
    ∷ codes "order 0 0 https://a.com https://a.com https://a.com/"
    ∷ codes "commit 0 0 https://a.com 68747470733a2f2f612e636f6d2f => ok"
    ∷ codes "said 0 0 0 0 fetch no-cors https://a.com 68747470733a2f2f622e636f6d2f78 => ok"
    ∷ codes "end 0 blocked B4"
    ∷ [])
unfolding history_on_literals
in_pieces_run = refl

-- JSON as plain text
abbrev pub plain_json : ScriptData
plain_json = plain_script (codes "https://a.com/" ∷ [])
    (page_with (codes "https://a.com/") (DoFetch (codes "https://b.com/x") NoCors ∷ [])
    ∷ typed (codes "https://b.com/x") (codes "text/plain") (123 ∷ 34 ∷ 97 ∷ 34 ∷ 32 ∷ 58 ∷ []) ∷ [])

pub plain_json_run : run_text plain_json 6 ≡ lines_text (codes "history 2"
    ∷ codes "open 0"
    ∷ codes "order 0 0 https://a.com https://a.com https://a.com/"
    ∷ codes "commit 0 0 https://a.com 68747470733a2f2f612e636f6d2f => ok"
    ∷ codes "said 0 0 0 0 fetch no-cors https://a.com 68747470733a2f2f622e636f6d2f78 => ok"
    ∷ codes "end 0 blocked B6"
    ∷ [])
unfolding history_on_literals
plain_json_run = refl

-- plain text with nosniff
abbrev pub no_sniff : ScriptData
no_sniff = plain_script (codes "https://a.com/" ∷ [])
    (page_with (codes "https://a.com/") (DoFetch (codes "https://b.com/x") NoCors ∷ [])
    ∷ record (answer_with (codes "https://b.com/x") 200 ((codes "content-type", (codes "text/plain" ∷ [])) ∷ (codes "x-content-type-options", (codes "NoSniff" ∷ [])) ∷ [])) { body = codes "x" } ∷ [])

pub no_sniff_run : run_text no_sniff 6 ≡ lines_text (codes "history 2"
    ∷ codes "open 0"
    ∷ codes "order 0 0 https://a.com https://a.com https://a.com/"
    ∷ codes "commit 0 0 https://a.com 68747470733a2f2f612e636f6d2f => ok"
    ∷ codes "said 0 0 0 0 fetch no-cors https://a.com 68747470733a2f2f622e636f6d2f78 => ok"
    ∷ codes "end 0 blocked B3"
    ∷ [])
unfolding history_on_literals
no_sniff_run = refl

-- XML
abbrev pub xml : ScriptData
xml = plain_script (codes "https://a.com/" ∷ [])
    (page_with (codes "https://a.com/") (DoFetch (codes "https://b.com/x") NoCors ∷ [])
    ∷ typed (codes "https://b.com/x") (codes "application/rss+xml") (codes " <?xml") ∷ [])

pub xml_run : run_text xml 6 ≡ lines_text (codes "history 2"
    ∷ codes "open 0"
    ∷ codes "order 0 0 https://a.com https://a.com https://a.com/"
    ∷ codes "commit 0 0 https://a.com 68747470733a2f2f612e636f6d2f => ok"
    ∷ codes "said 0 0 0 0 fetch no-cors https://a.com 68747470733a2f2f622e636f6d2f78 => ok"
    ∷ codes "end 0 blocked B5"
    ∷ [])
unfolding history_on_literals
xml_run = refl

-- an image in XML
abbrev pub svg : ScriptData
svg = plain_script (codes "https://a.com/" ∷ [])
    (page_with (codes "https://a.com/") (DoFetch (codes "https://b.com/x") NoCors ∷ [])
    ∷ typed (codes "https://b.com/x") (codes "image/svg+xml") (codes "<?xml") ∷ [])

pub svg_run : run_text svg 8 ≡ lines_text (codes "history 2"
    ∷ codes "open 0"
    ∷ codes "order 0 0 https://a.com https://a.com https://a.com/"
    ∷ codes "commit 0 0 https://a.com 68747470733a2f2f612e636f6d2f => ok"
    ∷ codes "said 0 0 0 0 fetch no-cors https://a.com 68747470733a2f2f622e636f6d2f78 => ok"
    ∷ codes "head 0 A4"
    ∷ codes "piece 0 0 3c3f786d6c"
    ∷ codes "end 0 whole"
    ∷ [])
unfolding history_on_literals
svg_run = refl

-- JSON that is none
abbrev pub not_json : ScriptData
not_json = plain_script (codes "https://a.com/" ∷ [])
    (page_with (codes "https://a.com/") (DoFetch (codes "https://b.com/x") NoCors ∷ [])
    ∷ typed (codes "https://b.com/x") (codes "application/json") (codes "hello") ∷ [])

pub not_json_run : run_text not_json 8 ≡ lines_text (codes "history 2"
    ∷ codes "open 0"
    ∷ codes "order 0 0 https://a.com https://a.com https://a.com/"
    ∷ codes "commit 0 0 https://a.com 68747470733a2f2f612e636f6d2f => ok"
    ∷ codes "said 0 0 0 0 fetch no-cors https://a.com 68747470733a2f2f622e636f6d2f78 => ok"
    ∷ codes "head 0 A5"
    ∷ codes "piece 0 0 68656c6c6f"
    ∷ codes "end 0 whole"
    ∷ [])
unfolding history_on_literals
not_json_run = refl

-- a script's prefix
abbrev pub prefix : ScriptData
prefix = plain_script (codes "https://a.com/" ∷ [])
    (page_with (codes "https://a.com/") (DoFetch (codes "https://b.com/x") NoCors ∷ [])
    ∷ typed (codes "https://b.com/x") (codes "text/javascript") ((codes ")]}'")) ∷ [])

pub prefix_run : run_text prefix 6 ≡ lines_text (codes "history 2"
    ∷ codes "open 0"
    ∷ codes "order 0 0 https://a.com https://a.com https://a.com/"
    ∷ codes "commit 0 0 https://a.com 68747470733a2f2f612e636f6d2f => ok"
    ∷ codes "said 0 0 0 0 fetch no-cors https://a.com 68747470733a2f2f622e636f6d2f78 => ok"
    ∷ codes "end 0 blocked B7"
    ∷ [])
unfolding history_on_literals
prefix_run = refl

-- the prefix in a style sheet
abbrev pub css_prefix : ScriptData
css_prefix = plain_script (codes "https://a.com/" ∷ [])
    (page_with (codes "https://a.com/") (DoFetch (codes "https://b.com/x") NoCors ∷ [])
    ∷ typed (codes "https://b.com/x") (codes "text/css") ((codes ")]}'")) ∷ [])

pub css_prefix_run : run_text css_prefix 8 ≡ lines_text (codes "history 2"
    ∷ codes "open 0"
    ∷ codes "order 0 0 https://a.com https://a.com https://a.com/"
    ∷ codes "commit 0 0 https://a.com 68747470733a2f2f612e636f6d2f => ok"
    ∷ codes "said 0 0 0 0 fetch no-cors https://a.com 68747470733a2f2f622e636f6d2f78 => ok"
    ∷ codes "head 0 A4"
    ∷ codes "piece 0 0 295d7d27"
    ∷ codes "end 0 whole"
    ∷ [])
unfolding history_on_literals
css_prefix_run = refl

-- a part of HTML
abbrev pub partial : ScriptData
partial = plain_script (codes "https://a.com/" ∷ [])
    (page_with (codes "https://a.com/") (DoFetch (codes "https://b.com/x") NoCors ∷ [])
    ∷ record (answer_with (codes "https://b.com/x") 206 ((codes "content-type", (codes "text/html" ∷ [])) ∷ [])) { body = codes "x" } ∷ [])

pub partial_run : run_text partial 6 ≡ lines_text (codes "history 2"
    ∷ codes "open 0"
    ∷ codes "order 0 0 https://a.com https://a.com https://a.com/"
    ∷ codes "commit 0 0 https://a.com 68747470733a2f2f612e636f6d2f => ok"
    ∷ codes "said 0 0 0 0 fetch no-cors https://a.com 68747470733a2f2f622e636f6d2f78 => ok"
    ∷ codes "end 0 blocked B2"
    ∷ [])
unfolding history_on_literals
partial_run = refl

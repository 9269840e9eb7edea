-- A shop page with an advertisement, pictures, a font, data of its own and storage.
use Rattle.std.proofs.Common.{refl}
use Rattle.std.specs.Prelude.{◌≡◌, ◌++◌, ◌∷◌, [], List, codes, false, map, true}
use Rattle.public_suffix.specs.RegistrableDomain.{SuffixRule}
use Rattle.history_entry.specs.declared.body.Mode.TheVariants.{Cors as InCors, NoCors}
use Rattle.history_entry.specs.declared.body.Src.TheVariants.{Url as FromUrl}
use Rattle.script_model.specs.ScriptData.{ScriptData}
use Rattle.script_model.specs.declared.action.Action.TheVariants.{Ask as DoAsk, Fetch as DoFetch, Frame as DoFrame, Wait as DoWait}
use Rattle.history_rows.proofs.Computing.{answer_with, lines_text, page_with, plain_resource, plain_script, run_text, typed}
use Rattle.history_rows.proofs.OnLiterals.{history_on_literals}

-- thirty suffix rules
abbrev pub thirty_rules : List SuffixRule
thirty_rules = map (λ text. record { exception = false; text = text })
    (codes "com" ∷ codes "net" ∷ codes "org" ∷ codes "edu" ∷ codes "gov" ∷ codes "mil" ∷ codes "int" ∷ codes "info"
    ∷ codes "biz" ∷ codes "name" ∷ codes "uk" ∷ codes "co.uk" ∷ codes "org.uk" ∷ codes "ac.uk" ∷ codes "gov.uk" ∷ codes "ltd.uk"
    ∷ codes "plc.uk" ∷ codes "me.uk" ∷ codes "net.uk" ∷ codes "de" ∷ codes "fr" ∷ codes "jp" ∷ codes "co.jp" ∷ codes "au"
    ∷ codes "com.au" ∷ codes "nz" ∷ codes "co.nz" ∷ codes "io" ∷ codes "*.ck" ∷ [])
    ++ (record { exception = true; text = codes "www.ck" }) ∷ []

-- nothing is denied, dropped or killed
abbrev pub shop : ScriptData
shop = record (plain_script (codes "https://www.shop.co.uk/" ∷ [])
    (page_with (codes "https://www.shop.co.uk/")
    (DoFrame (FromUrl (codes "https://ads.adnet.com/")) false
    ∷ DoFetch (codes "https://cdn.pics.net/i.png") NoCors
    ∷ DoFetch (codes "https://cdn.pics.net/j.js") NoCors
    ∷ DoFetch (codes "https://fonts.type.org/f") InCors
    ∷ DoFetch (codes "https://www.shop.co.uk/d") InCors
    ∷ DoAsk (codes "store") (codes "set k v")
    ∷ DoAsk (codes "store") (codes "get k")
    ∷ DoWait ∷ [])
    ∷ plain_resource (codes "https://ads.adnet.com/")
    ∷ typed (codes "https://cdn.pics.net/i.png") (codes "image/png") (codes "x")
    ∷ typed (codes "https://cdn.pics.net/j.js") (codes "text/javascript") (codes "y")
    ∷ record (answer_with (codes "https://fonts.type.org/f") 200 ((codes "access-control-allow-origin", (codes "*" ∷ [])) ∷ [])) { body = codes "z" }
    ∷ typed (codes "https://www.shop.co.uk/d") (codes "application/json") (codes "{}") ∷ [])) { rules = record { suffixes = thirty_rules; isolated = [] } }

pub shop_run : run_text shop 26 ≡ lines_text (codes "history 2"
    ∷ codes "open 0"
    ∷ codes "order 0 0 https://shop.co.uk https://www.shop.co.uk https://www.shop.co.uk/"
    ∷ codes "commit 0 0 https://www.shop.co.uk 68747470733a2f2f7777772e73686f702e636f2e756b2f => ok"
    ∷ codes "said 0 0 0 0 frame plain url 68747470733a2f2f6164732e61646e65742e636f6d2f => ok"
    ∷ codes "order 1 1 https://adnet.com https://ads.adnet.com https://ads.adnet.com/"
    ∷ codes "said 0 0 1 0 fetch no-cors https://www.shop.co.uk 68747470733a2f2f63646e2e706963732e6e65742f692e706e67 => ok"
    ∷ codes "said 0 0 2 0 fetch no-cors https://www.shop.co.uk 68747470733a2f2f63646e2e706963732e6e65742f6a2e6a73 => ok"
    ∷ codes "said 0 0 3 0 fetch cors https://www.shop.co.uk 68747470733a2f2f666f6e74732e747970652e6f72672f66 => ok"
    ∷ codes "said 0 0 4 0 fetch cors https://www.shop.co.uk 68747470733a2f2f7777772e73686f702e636f2e756b2f64 => ok"
    ∷ codes "said 0 0 5 0 ask 73746f7265 https://www.shop.co.uk 736574206b2076 => answer 646f6e65"
    ∷ codes "said 0 0 6 0 ask 73746f7265 https://www.shop.co.uk 676574206b => answer 736f6d652076"
    ∷ codes "commit 1 1 https://ads.adnet.com 68747470733a2f2f6164732e61646e65742e636f6d2f => ok"
    ∷ codes "head 0 A4"
    ∷ codes "head 1 A4"
    ∷ codes "head 2 A2"
    ∷ codes "head 3 A1"
    ∷ codes "piece 0 0 78"
    ∷ codes "piece 1 0 79"
    ∷ codes "piece 2 0 7a"
    ∷ codes "piece 3 0 7b7d"
    ∷ codes "end 0 whole"
    ∷ codes "end 1 whole"
    ∷ codes "end 2 whole"
    ∷ codes "end 3 whole"
    ∷ codes "local 0 0 7 waited"
    ∷ [])
unfolding history_on_literals
shop_run = refl

-- Responses with a resource policy of their own: no-cors requests from elsewhere are left out, under the second policy alone.
use Rattle.std.proofs.Common.{refl}
use Rattle.std.specs.Prelude.{◌≡◌, ◌∷◌, ◌++◌, [], List, codes, true, ℕ}
use Rattle.http_header.specs.HeaderMap.{Entries}
use Rattle.history_entry.specs.declared.body.Mode.{Mode}
use Rattle.history_entry.specs.declared.body.Mode.TheVariants.{Cors as InCors, NoCors}
use Rattle.history_entry.specs.declared.body.Src.TheVariants.{Url as FromUrl}
use Rattle.history_entry.specs.declared.policy.Policy.TheVariants.{One}
use Rattle.script_model.specs.ResourceData.{ResourceData}
use Rattle.script_model.specs.ScriptData.{ScriptData}
use Rattle.script_model.specs.declared.action.Action.TheVariants.{Fetch as DoFetch, Frame as DoFrame}
use Rattle.history_rows.proofs.Computing.{answer_with, lines_text, page_with, plain_script, redirect, run_text}
use Rattle.history_rows.proofs.OnLiterals.{history_on_literals}

-- an image of one byte with this resource policy
abbrev pub image : List ℕ → List ℕ → ResourceData
image url policy = record (answer_with url 200 ((codes "content-type", codes "image/png" ∷ []) ∷ (codes "cross-origin-resource-policy", policy ∷ []) ∷ [])) { body = codes "x" }

-- a page `https://a.com/` that fetches this image
abbrev pub page_fetching : Mode → List ℕ → List ℕ → ScriptData
page_fetching mode url policy = plain_script (codes "https://a.com/" ∷ []) (page_with (codes "https://a.com/") (DoFetch url mode ∷ []) ∷ image url policy ∷ [])

-- the lines of the page, its request without CORS, by the URL in hexadecimal, and what comes of it
abbrev pub fetched : List ℕ → List (List ℕ) → List (List ℕ)
fetched url later = codes "open 0"
    ∷ codes "order 0 0 https://a.com https://a.com https://a.com/"
    ∷ codes "commit 0 0 https://a.com 68747470733a2f2f612e636f6d2f => ok"
    ∷ (codes "said 0 0 0 0 fetch no-cors https://a.com " ++ url ++ codes " => ok") ∷ later

-- the image is delivered by this rule
abbrev pub delivered_by : List ℕ → List (List ℕ)
delivered_by rule = (codes "head 0 " ++ rule) ∷ codes "piece 0 0 78" ∷ codes "end 0 whole" ∷ []

-- another site's image, for its own site alone
pub other_site_run : run_text (page_fetching NoCors (codes "https://b.com/x") (codes "same-site")) 9
    ≡ lines_text (codes "history 2" ∷ fetched (codes "68747470733a2f2f622e636f6d2f78") (codes "end 0 blocked B8" ∷ []))
unfolding history_on_literals
other_site_run = refl

-- for all
pub for_all_run : run_text (page_fetching NoCors (codes "https://b.com/x") (codes "cross-origin")) 9
    ≡ lines_text (codes "history 2" ∷ fetched (codes "68747470733a2f2f622e636f6d2f78") (delivered_by (codes "A4")))
unfolding history_on_literals
for_all_run = refl

-- under the first policy nobody is left out, and the text has no version line
pub first_policy_run : run_text (record (page_fetching NoCors (codes "https://b.com/x") (codes "same-site")) { policy = One }) 9
    ≡ lines_text (fetched (codes "68747470733a2f2f622e636f6d2f78") (delivered_by (codes "A4")))
unfolding history_on_literals
first_policy_run = refl

-- another origin of the page's site
pub own_site_run : run_text (page_fetching NoCors (codes "https://s.a.com/x") (codes "same-site")) 9
    ≡ lines_text (codes "history 2" ∷ fetched (codes "68747470733a2f2f732e612e636f6d2f78") (delivered_by (codes "A3")))
unfolding history_on_literals
own_site_run = refl

pub other_origin_run : run_text (page_fetching NoCors (codes "https://s.a.com/x") (codes "same-origin")) 9
    ≡ lines_text (codes "history 2" ∷ fetched (codes "68747470733a2f2f732e612e636f6d2f78") (codes "end 0 blocked B8" ∷ []))
unfolding history_on_literals
other_origin_run = refl

-- the page's own origin
pub own_origin_run : run_text (page_fetching NoCors (codes "https://a.com/x") (codes "same-origin")) 9
    ≡ lines_text (codes "history 2" ∷ fetched (codes "68747470733a2f2f612e636f6d2f78") (delivered_by (codes "A3")))
unfolding history_on_literals
own_origin_run = refl

-- in mode cors the resource policy is not asked
pub with_cors_run : run_text (plain_script (codes "https://a.com/" ∷ []) (page_with (codes "https://a.com/") (DoFetch (codes "https://b.com/x") InCors ∷ [])
    ∷ answer_with (codes "https://b.com/x") 200 ((codes "access-control-allow-origin", codes "*" ∷ []) ∷ (codes "cross-origin-resource-policy", codes "same-origin" ∷ []) ∷ []) ∷ [])) 9
    ≡ lines_text (codes "history 2" ∷ codes "open 0"
    ∷ codes "order 0 0 https://a.com https://a.com https://a.com/"
    ∷ codes "commit 0 0 https://a.com 68747470733a2f2f612e636f6d2f => ok"
    ∷ codes "said 0 0 0 0 fetch cors https://a.com 68747470733a2f2f622e636f6d2f78 => ok"
    ∷ codes "head 0 A2"
    ∷ codes "end 0 whole"
    ∷ [])
unfolding history_on_literals
with_cors_run = refl

-- a redirect to `https://b.com/2`, which has no policy, and one back to the page's origin
abbrev pub to_b : Entries (List ℕ) → ResourceData
to_b fields = answer_with (codes "https://a.com/1") 302 ((codes "location", codes "https://b.com/2" ∷ []) ∷ fields)

abbrev pub from_1 : List ResourceData → ScriptData
from_1 resources = plain_script (codes "https://a.com/" ∷ []) (page_with (codes "https://a.com/") (DoFetch (codes "https://a.com/1") NoCors ∷ []) ∷ resources)

-- a chain that came back is left out: not each of its URLs has the page's origin
pub came_back_run : run_text (from_1 (to_b [] ∷ redirect (codes "https://b.com/2") 302 (codes "https://a.com/3") ∷ image (codes "https://a.com/3") (codes "same-origin") ∷ [])) 11
    ≡ lines_text (codes "history 2" ∷ fetched (codes "68747470733a2f2f612e636f6d2f31") (codes "hop req 0 https://b.com/2" ∷ codes "hop req 0 https://a.com/3" ∷ codes "end 0 blocked B8" ∷ []))
unfolding history_on_literals
came_back_run = refl

-- the policy of a redirect is not asked
pub last_response_run : run_text (from_1 (to_b ((codes "cross-origin-resource-policy", codes "same-origin" ∷ []) ∷ []) ∷ image (codes "https://b.com/2") (codes "cross-origin") ∷ [])) 11
    ≡ lines_text (codes "history 2" ∷ fetched (codes "68747470733a2f2f612e636f6d2f31") (codes "hop req 0 https://b.com/2" ∷ delivered_by (codes "A4")))
unfolding history_on_literals
last_response_run = refl

-- a sandboxed document is in no origin and in no site of its own
pub sandboxed_run : run_text (plain_script (codes "https://a.com/" ∷ []) (page_with (codes "https://a.com/") (DoFrame (FromUrl (codes "https://a.com/f")) true ∷ [])
    ∷ page_with (codes "https://a.com/f") (DoFetch (codes "https://a.com/x") NoCors ∷ []) ∷ image (codes "https://a.com/x") (codes "same-site") ∷ [])) 11
    ≡ lines_text (codes "history 2" ∷ codes "open 0"
    ∷ codes "order 0 0 https://a.com https://a.com https://a.com/"
    ∷ codes "commit 0 0 https://a.com 68747470733a2f2f612e636f6d2f => ok"
    ∷ codes "said 0 0 0 0 frame sandboxed url 68747470733a2f2f612e636f6d2f66 => ok"
    ∷ codes "order 1 0 https://a.com opaque:1:https://a.com https://a.com/f"
    ∷ codes "commit 0 1 opaque:1:https://a.com 68747470733a2f2f612e636f6d2f66 => ok"
    ∷ codes "said 0 1 0 1 fetch no-cors opaque:1:https://a.com 68747470733a2f2f612e636f6d2f78 => ok"
    ∷ codes "end 0 blocked B8"
    ∷ [])
unfolding history_on_literals
sandboxed_run = refl

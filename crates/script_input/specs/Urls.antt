-- URLs, by the URL Standard. A URL that its place doesn't take is X3.
use Rattle.std.specs.Prelude.{ℕ, Bool, true, false, List, Result, Ok, Err, bytes_eq, codes, if◌then◌else◌}
use Rattle.serde_json.specs.Data.{Data}
use Rattle.page_origin.specs.PageUrls.{class_of, page_url_of}
use Rattle.page_origin.specs.Origins.{tuple_of}
use Rattle.page_origin.specs.declared.page.UrlRefusal.{UrlRefusal}
use Rattle.page_origin.specs.declared.class.UrlClass.{UrlClass}
use Rattle.page_origin.specs.declared.class.UrlClass.TheVariants.{AboutBlank, AboutSrcdoc, DataUrl, Foreign, Web}
use Rattle.page_origin.specs.declared.origin.Origin.TheVariants.{Tuple}
use Rattle.page_origin.specs.declared.origin.TupleOrigin.{TupleOrigin}
use Rattle.history_entry.specs.declared.body.Target.{Target}
use Rattle.history_entry.specs.declared.body.Target.TheVariants.{Any, Of, Own}
use Rattle.script_input.specs.Checked.{Checked, ◌>>=◌, check, refuse}
use Rattle.script_input.specs.Refusals.{wrong_url}
use Rattle.script_input.specs.Values.{string_at}

abbrev pub is_web : UrlClass → Bool
is_web Web = true
is_web AboutBlank = false
is_web AboutSrcdoc = false
is_web DataUrl = false
is_web Foreign = false

abbrev pub url_of : Result (List ℕ) UrlRefusal → Checked (List ℕ)
url_of (Ok url) = Ok url
url_of (Err refused) = refuse wrong_url

-- the URL that a text names, of class Web
unfoldable pub web_of : List ℕ → Checked (List ℕ)
web_of text = url_of (page_url_of text) >>= λ url. check (is_web (class_of url)) wrong_url url

-- a URL of class Web
abbrev pub web_at : Data → Checked (List ℕ)
web_at d = string_at d >>= web_of

-- a URL of class Web, standing for its tuple origin
unfoldable pub tuple_at : Data → Checked TupleOrigin
tuple_at d = web_at d >>= λ url. Ok (tuple_of url)

-- a post to the tuple origin of a URL of class Web
abbrev pub origin_target : List ℕ → Checked Target
origin_target text = web_of text >>= λ url. Ok (Of (Tuple (tuple_of url)))

-- to whom a post is given: `*`, `/`, or a URL of class Web
unfoldable pub target_of : List ℕ → Checked Target
target_of text =
    if bytes_eq text (codes "*") then Ok Any
    else (if bytes_eq text (codes "/") then Ok Own
    else origin_target text)

abbrev pub target_at : Data → Checked Target
target_at d = string_at d >>= target_of

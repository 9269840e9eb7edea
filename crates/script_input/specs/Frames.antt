-- Where a frame's first document comes from: exactly one of the keys `src`, any text of a URL, and `srcdoc`, the index of
-- a resource.
use Rattle.std.specs.Prelude.{ℕ, not, nat_lt, codes, Ok, ⊤, if◌then◌else◌}
use Rattle.serde_json.specs.Data.{Data}
use Rattle.history_entry.specs.declared.body.Src.{Src}
use Rattle.history_entry.specs.declared.body.Src.TheVariants.{Doc, Url}
use Rattle.script_input.specs.Checked.{Checked, ◌>>=◌, check}
use Rattle.script_input.specs.Refusals.{past_limit, wrong_shape}
use Rattle.script_input.specs.Values.{number_at, url_input_at}
use Rattle.script_input.specs.Objects.{has, required}

-- exactly one of `src` and `srcdoc` is there, else X2 at the object
unfoldable pub one_source : Data → Checked ⊤
one_source d = check (if has (codes "src") d then not (has (codes "srcdoc") d) else has (codes "srcdoc") d) wrong_shape tt

-- the index of a resource, of which there are so many, else X6
unfoldable pub index_below : ℕ → Data → Checked ℕ
index_below count d = number_at d >>= λ n. check (nat_lt n count) past_limit n

-- what the one of them says that is there
unfoldable pub source_at : ℕ → Data → Checked Src
source_at count d =
    if has (codes "src") d then (required (codes "src") url_input_at d >>= λ url. Ok (Url url))
    else (required (codes "srcdoc") (index_below count) d >>= λ index. Ok (Doc index))

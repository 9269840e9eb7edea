-- Each state but `Missed` has something that could follow and meets the grammar.
use Rattle.std.proofs.Common.{◌≡◌, ℕ, List, [], codes, refl}
use Rattle.std.proofs.lemmas.Bool.{true≢false}
use Rattle.corb_sniff.specs.Continuations.{IsHopeless}
use Rattle.corb_sniff.specs.JsonGrammar.{is_json}
use Rattle.corb_sniff.specs.JsonSamples.{json_sample}
use Rattle.corb_sniff.specs.declared.json.JsonState.{JsonState}
use Rattle.corb_sniff.specs.declared.json.JsonState.TheVariants.{White, Object, String, Escape, Named, Met, Missed}

-- what could follow
json_way : JsonState → List ℕ
json_way White = codes "{\"\":"
json_way Object = codes "\"\":"
json_way String = codes "\":"
json_way Escape = codes "n\":"
json_way Named = codes ":"
json_way Met = []
json_way Missed = []

pub json_hope : (state : JsonState) → IsHopeless is_json (json_sample state) → state ≡ Missed
unfolding is_json json_way
json_hope Missed hopeless = refl
json_hope state hopeless = absurd (true≢false (hopeless (json_way state)))

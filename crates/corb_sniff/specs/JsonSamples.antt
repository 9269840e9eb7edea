-- The samples of the states that read JSON.
use Rattle.std.specs.Prelude.{ℕ, List, [], codes}
use Rattle.corb_sniff.specs.declared.json.JsonState.{JsonState}
use Rattle.corb_sniff.specs.declared.json.JsonState.TheVariants.{White, Object, String, Escape, Named, Met, Missed}

-- bytes after which the state is this one
abbrev pub json_sample : JsonState → List ℕ
json_sample White = []
json_sample Object = codes "{"
json_sample String = codes "{\""
json_sample Escape = codes "{\"\\"
json_sample Named = codes "{\"\""
json_sample Met = codes "{\"\":"
json_sample Missed = codes "x"
